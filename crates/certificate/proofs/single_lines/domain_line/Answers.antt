use Rattle.std.proofs.Common.{sym}
use Rattle.certificate.proofs.OneLine.{domain_read, no_domain, more_than_domain}
use Rattle.certificate.proofs.single_lines.domain_line.Goals as goal

pub returns-in_default : goal.returns-in_default
returns-in_default c = no_domain c.args.bytes.now (sym c.in_default.ensures)

pub returns-then-not-is_empty : goal.returns-then-not-is_empty
returns-then-not-is_empty c = more_than_domain c.args.bytes.now c.in-Some.domain c.in-Some.rest.now (sym c.in-Some.ensures) (sym c.if-not-is_empty.ensures)

pub returns : goal.returns
returns c = domain_read c.args.bytes.now c.in-Some.domain c.in-Some.rest.now (sym c.in-Some.ensures) (sym c.if-not-is_empty.ensures)
