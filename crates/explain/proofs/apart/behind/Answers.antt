use Rattle.std.proofs.Common.{◌≡◌, inl, inr, slice_get, slice_index_or, Some, refl, sym, ap, ◌∙◌, arith, eqb-true}
use Rattle.std.proofs.lemmas.Bool.{cases_eq, eqb-false}
use Rattle.std.proofs.lemmas.Option.{same_Some, slice_get-get_or, slice_get_within}
use Rattle.lemmas.proofs.Members.{Contains-none}
use Rattle.axioms.specs.declared.ids.IndId.{IndId}
use Rattle.explain.proofs.Different.{behind_first}
use Rattle.explain.proofs.apart.behind.Goals as goal

pub returns-then-eq : goal.returns-then-eq
returns-then-eq c =
    let members = c.args.members.now in
    let place = c.loop-place.place in
    let number : (slice_index_or members place (record { 0 = 0 })).0 ≡ c.args.individual.0 = eqb-true _ _ (sym c.eq.ensures ∙ c.if-eq.true) in
    let one : slice_index_or members place (record { 0 = 0 }) ≡ c.args.individual = ap (λ n. record { 0 = n }) number in
    let at : slice_get members place ≡ Some c.args.individual = slice_get-get_or members place (record { 0 = 0 }) c.loop-place-test.true ∙ ap Some one in
    behind_first members _ place c.args.individual at c.loop-place.invariant refl

pub loop-place-preserved : goal.loop-place-preserved
loop-place-preserved c n low at =
    let members = c.args.members.now in
    let place = c.loop-place.place in
    elim (cases_eq n place) [
      | inr other ↦ c.loop-place.invariant n (omega (arith, low, other)) at
      | inl here ↦
          let at_place = slice_get-get_or members place (record { 0 = 0 }) c.loop-place-test.true in
          let one : slice_index_or members place (record { 0 = 0 }) ≡ c.args.individual = same_Some _ c.args.individual (sym at_place ∙ ap (slice_get members) (sym here) ∙ at) in
          eqb-false _ _ (sym c.eq.ensures ∙ c.if-eq.false) (ap (λ (i : IndId). i.0) one)
    ]

pub returns : goal.returns
returns c other = (
  λ h. absurd (Contains-none other h),
  λ h. absurd (c.loop-place.invariant h.0 (omega (arith, slice_get_within c.args.members.now h.0 c.args.individual h.3, c.loop-place-test.false)) h.3),
)
