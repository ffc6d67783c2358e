use Rattle.std.proofs.Common.{◌≡◌, false, ap, sym, ◌∙◌}
use Rattle.std.proofs.lemmas.Result.{err_from_is_err_and}
use Rattle.certificate.specs.SourceReading.{Reading}
use Rattle.certificate.proofs.ReaderSteps.{lines_finished, lines_stop}
use Rattle.certificate.proofs.line_reader.LineReader.finish.Goals as goal

pub returns-in_err-last-clause-fault : goal.returns-in_err-last-clause-fault
returns-in_err-last-clause-fault g c =
    let p = err_from_is_err_and c.from_residual-in_err-last.result c.from_residual-in_err-last.ensures.1 in
    let k : c.args.self.now.is_consistent ≡ false = ap (λ (r : Reading). r.is_consistent) (sym c.self.view_is) ∙ c.if-self.false in
    rw (p.1, p.2) (lines_stop _ _ c.args.self.now c.in_err-last.field-0.0 k c.requires c.in_err-last.ensures.fault)

pub returns-clause-listed : goal.returns-clause-listed
returns-clause-listed g c =
    let k : c.args.self.now.is_consistent ≡ false = ap (λ (r : Reading). r.is_consistent) (sym c.self.view_is) ∙ c.if-self.false in
    lines_finished _ _ c.args.self.now k c.requires c.in_ok-last.ensures.last
