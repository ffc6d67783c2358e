use Rattle.std.proofs.Common.{arith}
use Rattle.certificate.proofs.Rules.{numbered_at}
use Rattle.certificate.proofs.line_reading.numbered_rule.Goals as goal

pub returns : goal.returns
returns c = numbered_at c.args.number _ (omega (arith, c.if-number-eq0.false)) (omega (arith, c.if-number-gt20.false))
