use Rattle.std.proofs.lemmas.Result.{err_from_is_err_and}
use Rattle.cert_check.proofs.LinesCome.{is_tested, reads_since}
use Rattle.cert_check.proofs.derivation.tested_certificate.Goals as goal

pub returns-in_err-lines-clause-fault : goal.returns-in_err-lines-clause-fault
returns-in_err-lines-clause-fault g c =
    let p = err_from_is_err_and c.from_residual-in_err-lines.result c.from_residual-in_err-lines.ensures.1 in
    let k = c.in_ok-tested_lines.ensures.kept in
    rw (p.1, p.2) (reads_since c.in_ok-reader.reader c.tested_lines.new.reader _ _ k.lines k.come _ c.in_ok-reader.ensures.start.2)

pub returns-clause-tested : goal.returns-clause-tested
returns-clause-tested g c =
    let reader = c.in_ok-reader.ensures.start in
    is_tested c.args.ontology.now c.in_ok-reader.reader c.tested_lines.new.reader _ _ _ _ c.in_ok-tested_lines.field-0 c.in_ok-lines.lines c.in_ok-listed.listed reader.0 reader.2
    c.in_ok-tested_lines.ensures.kept c.in_ok-lines.ensures c.in_ok-listed.ensures.listed
