use Rattle.std.proofs.Common.{◌≡◌, ◌<◌, ℕ, List, AllPairs, Some, get_or, slice_get, length, map, sym, ◌∙◌, subst, refl, true≢false, below_more, arith}
use Rattle.std.specs.Cmp.{both_ways}
use Rattle.std.proofs.lemmas.Option.{get_or_from_slice_get}
use Rattle.axioms.specs.declared.ids.PropId.{PropId}
use Rattle.axioms.specs.View.{prop_numbers}
use Rattle.certificate.specs.View.{pair_row_of}
use Rattle.interpretation_spec.proofs.Shapes.{first_and, pairs_of_places, places_of_pairs}
use Rattle.listed_model.specs.Listing.{targets_of}
use Rattle.listed_model.specs.Members.{holds}
use Rattle.listed_model.specs.Rows.{HaveSamePairs}
use Rattle.listed_model.proofs.property_axioms.are_same_properties.Goals as goal

-- the first property and one of them have the same pairs, where each two have
first_same : (rows : List (ℕ × ℕ × List ℕ)) (properties : List PropId) (first : PropId) (at : ℕ) → slice_get properties 0 ≡ Some first → at < length properties
    → AllPairs (HaveSamePairs rows) (prop_numbers properties) → HaveSamePairs rows first.0 (get_or properties at record { 0 = 0 }).0
first_same rows properties first at e l h =
    let none : PropId = record { 0 = 0 } in
    first_and (λ (r s : PropId). HaveSamePairs rows r.0 s.0) (λ r x y. refl) properties first at none e l (places_of_pairs (HaveSamePairs rows) (λ (p : PropId). p.0) properties none h)

pub returns-then-not-are_pairs_within : goal.returns-then-not-are_pairs_within
returns-then-not-are_pairs_within c = (
  λ e. absurd (true≢false (sym e)),
  λ h.
      let same = first_same (map pair_row_of c.args.rows.now) c.args.properties.now c.in-Some.first.now c.loop-property.property-index (sym c.in-Some.ensures.value) c.loop-property-test.true h in
      sym c.if-not-are_pairs_within.true ∙ c.are_pairs_within.ensures.1 (λ x y t. sym (same x y) ∙ t),
)

pub returns-then-not-are_pairs_within-2 : goal.returns-then-not-are_pairs_within-2
returns-then-not-are_pairs_within-2 c = (
  λ e. absurd (true≢false (sym e)),
  λ h.
      let same = first_same (map pair_row_of c.args.rows.now) c.args.properties.now c.in-Some.first.now c.loop-property.property-index (sym c.in-Some.ensures.value) c.loop-property-test.true h in
      sym c.if-not-are_pairs_within-2.true ∙ c.are_pairs_within-in-loop-property.ensures.1 (λ x y t. same x y ∙ t),
)

pub loop-property-preserved : goal.loop-property-preserved
loop-property-preserved c =
    let rows = map pair_row_of c.args.rows.now in
    let properties = c.args.properties.now in
    let none : PropId = record { 0 = 0 } in
    let at = c.loop-property.property-index in
    let s = (get_or properties at none).0 in
    let first = get_or_from_slice_get properties 0 c.in-Some.first.now none (sym c.in-Some.ensures.value) in
    below_more _ at c.loop-property.invariant (subst (λ (p : PropId). HaveSamePairs rows p.0 s) (sym first)
    (λ x y. both_ways (holds (targets_of rows c.in-Some.first.now.0 x) y) (holds (targets_of rows s x) y)
    (λ t. c.are_pairs_within.ensures.0 c.if-not-are_pairs_within.false x y t)
    (λ t. c.are_pairs_within-in-loop-property.ensures.0 c.if-not-are_pairs_within-2.false x y t)))

pub returns : goal.returns
returns c =
    let rows = map pair_row_of c.args.rows.now in (
      λ _. pairs_of_places (HaveSamePairs rows) (λ (p : PropId). p.0) c.args.properties.now record { 0 = 0 }
          (λ m k l lk x y. sym (c.loop-property.invariant m (omega (arith, c.loop-property-test.false)) x y) ∙ c.loop-property.invariant k (omega (arith, c.loop-property-test.false)) x y),
      λ _. refl,
    )
