use Rattle.std.proofs.Common.{refl, sym, ◌∙◌}
use Rattle.std.proofs.lemmas.Result.{err_from_is_err_and}
use Rattle.certificate.proofs.ReaderSteps.{last_read, last_stops, no_last_stops, more_stops, none_at_hand, some_at_hand, not_so}
use Rattle.certificate.proofs.line_reader.LineReader.last.Goals as goal

pub returns-then-not-is_last_line-clause-fault : goal.returns-then-not-is_last_line-clause-fault
returns-then-not-is_last_line-clause-fault g c =
    no_last_stops _ c.args.self.now c.bad_text.result (λ e. not_so (c.if-not-is_last_line.ensures.1 (e ∙ sym c.line.ensures))) c.bad_text.ensures

pub returns-in_err-let_go-clause-fault : goal.returns-in_err-let_go-clause-fault
returns-in_err-let_go-clause-fault g c =
    let p = err_from_is_err_and c.from_residual.result c.from_residual.ensures.1 in
    rw (p.1, p.2) (last_stops _ _ c.args.self.now c.in_err-let_go.field-0.0 c.in_err-let_go.ensures.bounded (c.if-not-is_last_line.ensures.0 refl ∙ c.line.ensures) c.in_err-let_go.ensures.fault)

pub returns-then-not-is_empty-clause-fault : goal.returns-then-not-is_empty-clause-fault
returns-then-not-is_empty-clause-fault g c =
    more_stops _ _ c.args.self.now c.let_go.new.self c.bad_text-then-not-is_empty.result (c.if-not-is_last_line.ensures.0 refl ∙ c.line.ensures) c.in_ok-let_go.ensures.ok
    (λ e. some_at_hand c.line-2.result.now c.if-not-is_empty.ensures (c.line-2.ensures ∙ e)) c.bad_text-then-not-is_empty.ensures

pub returns-clause-last : goal.returns-clause-last
returns-clause-last g c =
    last_read _ _ c.args.self.now c.let_go.new.self (c.if-not-is_last_line.ensures.0 refl ∙ c.line.ensures) c.in_ok-let_go.ensures.ok
    (sym c.line-2.ensures ∙ none_at_hand c.line-2.result.now c.if-not-is_empty.ensures)
