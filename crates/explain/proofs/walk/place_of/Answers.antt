use Rattle.std.proofs.Common.{inl, inr, arith, ap, ◌∙◌, subst}
use Rattle.std.proofs.lemmas.Bool.{cases_eq}
use Rattle.std.proofs.lemmas.Option.{get_or_from_slice_get}
use Rattle.explain.specs.declared.reached.Reached.{Reached}
use Rattle.explain.specs.Search.{StandsAt}
use Rattle.explain.proofs.Places.{stands_within}
use Rattle.explain.proofs.walk.place_of.Goals as goal

pub loop-place-preserved : goal.loop-place-preserved
loop-place-preserved c = λ k l s. elim (cases_eq k c.loop-place.place) [
  | inl e ↦
      let reached = c.args.reached.now in
      let here : StandsAt reached c.args.number c.loop-place.place = subst (StandsAt reached c.args.number) e s in
      let is = ap (λ (r : Reached). r.number) (get_or_from_slice_get reached c.loop-place.place here.0 _ here.1) in
      absurd (c.if-item-number.false (is ∙ here.2))
  | inr apart ↦ c.loop-place.invariant k (omega arith) s
]

pub returns : goal.returns
returns c = λ k s. c.loop-place.invariant k (omega (arith, stands_within c.args.reached.now c.args.number k s)) s
