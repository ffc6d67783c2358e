use Rattle.std.proofs.Common.{◌≡◌, ℕ, ◌+◌, ◌-◌, ◌++◌, ◌∷◌, [], List, drop, slice_get, take, Some, ap, sym, ◌∙◌, arith}
use Rattle.lemmas.proofs.Places.{take_push}
use Rattle.normal_forms.specs.declared.forms.Form.{Form}
use Rattle.saturate.proofs.Staying.{slice_get_drop}
use Rattle.saturate.proofs.summary.forms_from.Goals as goal

pub loop-number-preserved : goal.loop-number-preserved
loop-number-preserved c =
    let forms = c.args.forms.now in
    let from = c.args.from in
    let n = c.loop-number.number in
    let back : from + (n - from) ≡ n = omega arith in
    let at : slice_get (drop from forms) (n - from) ≡ Some c.at.result = slice_get_drop from forms (n - from) ∙ ap (slice_get forms) back ∙ c.at.ensures in
    let next : n - from + 1 ≡ n + 1 - from = omega arith in
    c.in_ok-push.ensures.ok
    ∙ ap (λ (rest : List Form). rest ++ c.at.result ∷ []) c.loop-number.invariant
    ∙ sym (take_push (drop from forms) (n - from) c.at.result at)
    ∙ ap (λ (k : ℕ). take k (drop from forms)) next
