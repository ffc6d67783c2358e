use Rattle.std.proofs.Common.{◌≡◌, ◌↔◌, ◌+◌, ◌<◌, ℕ, List, Bool, true, false, All, sym, ap, ◌∙◌, subst, length, map, get_or, set, refl, true≢false, arith, inl, inr}
use Rattle.std.proofs.lemmas.Bool.{cases_eq, cases_lt}
use Rattle.std.proofs.lemmas.List.{length-set, get_or-set_same, get_or-set_other}
use Rattle.lemmas.proofs.Mapped.{All-from_map}
use Rattle.axioms.specs.declared.ids.IndId.{IndId}
use Rattle.interpretation_spec.proofs.Shapes.{pairs_of_places, places_of_pairs}
use Rattle.number_sets.specs.Members.{has}
use Rattle.listed_model.specs.Listing.{HaveTwoElements, element_of}
use Rattle.listed_model.proofs.individual_axioms.have_own_elements.Goals as goal

pub element_at-element-requires : goal.element_at-element-requires
element_at-element-requires c =
    All-from_map (λ (a : ℕ). a < length c.args.elements.now) (λ (a : IndId). a.0) c.args.individuals.now c.requires.there c.loop-individual.individual-index record { 0 = 0 } c.loop-individual-test.true

-- the element of one of the individuals is below the bound of the set
inside : (elements : List ℕ) (bound : ℕ) (xs : List IndId) (k element : ℕ) → All (λ x. x < bound) elements → All (λ a. a < length elements) (map (λ (a : IndId). a.0) xs) → k < length xs
    → element ≡ element_of elements (get_or xs k record { 0 = 0 }).0 → element < bound
inside elements bound xs k element room there l is =
    let a = (get_or xs k record { 0 = 0 }).0 in
    subst (λ x. x < bound) (sym is) (room a 0 (All-from_map (λ (a : ℕ). a < length elements) (λ (a : IndId). a.0) xs there k record { 0 = 0 } l))

pub returns-then-contains-clause-own : goal.returns-then-contains-clause-own
returns-then-contains-clause-own c =
    let at = c.loop-individual.individual-index in
    let element = c.element_at-element.result in
    let within = inside c.args.elements.now (length c.args.met.now) c.args.individuals.now at element c.requires.room c.requires.there c.loop-individual-test.true c.element_at-element.ensures in (
      λ e. absurd (true≢false (sym e)),
      λ h.
          let (k, lk, e) = (c.loop-individual.invariant.met element within).0 (sym c.contains.ensures ∙ c.if-contains.true) in
          absurd (places_of_pairs (HaveTwoElements c.args.elements.now) (λ (a : IndId). a.0) c.args.individuals.now record { 0 = 0 } h k at lk c.loop-individual-test.true (e ∙ c.element_at-element.ensures)),
    )

-- the set of the elements met, with one more
met_more : (met : List Bool) (E : ℕ → ℕ) (at element x : ℕ) → element < length met → element ≡ E at → (has met x ≡ true) ↔ ((k : ℕ) × (k < at) × (E k ≡ x))
    → (has (set met element true) x ≡ true) ↔ ((k : ℕ) × (k < at + 1) × (E k ≡ x))
met_more met E at element x within is old = elim (cases_eq x element) [
  | inl e ↦ (
    λ h. (at, omega arith, sym is ∙ sym e),
    λ h. ap (has (set met element true)) e ∙ get_or-set_same met element true false within,
  )
  | inr ne ↦
      let other = get_or-set_other met element x true false ne in (
        λ h. (let (k, l, p) = old.0 (sym other ∙ h) in (k, omega arith, p)),
        λ (k, l, p). other ∙ old.1 (elim (cases_lt k at) [
          | inl b ↦ (k, b, p)
          | inr b ↦ (let e : k ≡ at = omega arith in absurd (ne (sym p ∙ ap E e ∙ sym is)))
        ]),
      )
]

pub loop-individual-preserved : goal.loop-individual-preserved
loop-individual-preserved c =
    let at = c.loop-individual.individual-index in
    let element = c.element_at-element.result in
    let is = c.element_at-element.ensures in
    let E : ℕ → ℕ = λ k. element_of c.args.elements.now (get_or c.args.individuals.now k record { 0 = 0 }).0 in
    let old = c.loop-individual.invariant in
    let within = inside c.args.elements.now (length c.args.met.now) c.args.individuals.now at element c.requires.room c.requires.there c.loop-individual-test.true is in
    let after = c.put.ensures.after in
    record {
      len = ap length after ∙ length-set c.loop-individual.met element true ∙ old.len;
      met = λ x l. subst (λ (row : List Bool). (has row x ≡ true) ↔ ((k : ℕ) × (k < at + 1) × (E k ≡ x))) (sym after)
          (met_more c.loop-individual.met E at element x (omega (arith, old.len)) is (old.met x l));
      apart = λ k m b lm e. elim (cases_lt m at) [
        | inl l ↦ old.apart k m b l e
        | inr l ↦
            (let last : m ≡ at = omega arith in
            let there = (old.met element within).1 (k, omega arith, e ∙ ap E last ∙ sym is) in
            true≢false (sym there ∙ sym c.contains.ensures ∙ c.if-contains.false))
      ];
    }

pub returns-clause-own : goal.returns-clause-own
returns-clause-own c = (
  λ _. pairs_of_places (HaveTwoElements c.args.elements.now) (λ (a : IndId). a.0) c.args.individuals.now record { 0 = 0 } (λ m k l lk. c.loop-individual.invariant.apart m k l (omega arith)),
  λ _. refl,
)
