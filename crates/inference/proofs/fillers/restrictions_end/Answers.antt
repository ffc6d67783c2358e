use Rattle.std.proofs.Common.{◌≡◌, ◌<◌, ⊎_elim, slice_get, Some, ap, ◌∙◌, subst, arith}
use Rattle.std.proofs.lemmas.Bool.Decides.{eqb_tells}
use Rattle.std.proofs.lemmas.Option.{slice_get_within}
use Rattle.indexes.specs.Keys.{by_restricted}
use Rattle.inference.proofs.Lists.{one_value}
use Rattle.inference.proofs.fillers.restrictions_end.Goals as goal

pub loop-number-preserved : goal.loop-number-preserved
loop-number-preserved c = λ r n low under.
    let forms = c.args.forms.now in
    ⊎_elim
    (λ w.
    let here : slice_get forms c.loop-number.number ≡ Some under.0 = subst (λ i. slice_get forms i ≡ Some under.0) w.1 under.1 in
    let same : under.0 ≡ c.at.result = one_value (slice_get forms c.loop-number.number) under.0 c.at.result here c.at.ensures in
    let high : r < c.end_by.result = c.end_by.ensures r (ap by_restricted (one_value (slice_get forms c.loop-number.number) c.at.result under.0 c.at.ensures here) ∙ under.2) in
    grind (arith, c.max-end.ensures, high))
    (λ w. let old : r < c.loop-number.end = c.loop-number.invariant r n (omega (arith, low, w.1)) under in grind (arith, c.max-end.ensures, old))
    (eqb_tells n c.loop-number.number)

pub returns : goal.returns
returns c = λ r n under. c.loop-number.invariant r n (omega (arith, slice_get_within c.args.forms.now n under.0 under.1, c.loop-number-test.false)) under
