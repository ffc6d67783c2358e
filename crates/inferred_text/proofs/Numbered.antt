-- The ontology that the text reads as: the names in the order of their declarations, and the axioms with their numbers there.
use Rattle.std.proofs.Common.{◌≡◌, ℕ, ◌<◌, ◌≤◌, List, ◌∷◌, length, map, true, false, eqb, ◌||◌, All, inl, inr, refl, ◌∙◌, ⊎_elim, arith}
use Rattle.std.specs.List.{filter}
use Rattle.std.proofs.lemmas.Bool.{both_ways, cases_eq, eq-eqb, eqb-true, false_from_ne_true, lt-ltb, or_cases, or_left, or_right}
use Rattle.axioms.specs.Expression.{Iri}
use Rattle.axioms.specs.Ontology.{Axiom, Class, ClassAssertion, EquivalentClasses, Names, Ontology, SubClass, name_at}
use Rattle.taxonomy.specs.Superclasses.{AreOnce, is_among}
use Rattle.taxonomy.specs.Texts.{in_byte_order, nothing_class, numbers_below}
use Rattle.taxonomy.proofs.Once.{among_below, once_filter}
use Rattle.taxonomy.proofs.Told.{length-numbers}
use Rattle.taxonomy.proofs.Within.{length_within}
use Rattle.inferred_text.specs.Inferred.{is_own, thing_class}
use Rattle.inferred_text.proofs.Said.{Line, Below, Member, Same}
use Rattle.inferred_text.proofs.Orders.{all_among, in_order, low_in_order, once_in_order}
use Rattle.inferred_text.proofs.Among.{filtered, filtered_from}
use Rattle.inferred_text.proofs.Places.{place}

-- owl:Thing, owl:Nothing, and the other classes as they are declared
abbrev pub class_order : List Iri → List ℕ
class_order classes = thing_class ∷ nothing_class ∷ filter is_own (in_byte_order classes)

-- the names in the order of their declarations
abbrev pub declared : Names → Names
declared names = record {
  classes = map (name_at names.classes) (class_order names.classes);
  properties = map (name_at names.properties) (in_byte_order names.properties);
  individuals = map (name_at names.individuals) (in_byte_order names.individuals);
}

-- the axiom that says a line, with the numbers in this order
abbrev pub axiom_for : Names → Line → Axiom
axiom_for names (Below c d) = SubClass (place (class_order names.classes) c) (place (class_order names.classes) d)
axiom_for names (Same cs) = EquivalentClasses (map (place (class_order names.classes)) cs)
axiom_for names (Member a c) = ClassAssertion (place (class_order names.classes) c) (place (in_byte_order names.individuals) a)

-- the ontology of these lines
abbrev pub numbered : Names → List Line → Ontology
numbered names lines = record {
  names = declared names;
  nodes = map Class (numbers_below (length (class_order names.classes)));
  axioms = map (axiom_for names) lines;
}

-- ---- the order of classes has each number once

no_own : (classes : List Iri) (k : ℕ) → is_own k ≡ false → is_among (filter is_own (in_byte_order classes)) k ≡ false
no_own classes k h = false_from_ne_true (is_among (filter is_own (in_byte_order classes)) k) (λ t. both_ways (is_own k) h (filtered_from is_own (in_byte_order classes) k t).1)

pub once_in_class_order : (classes : List Iri) → AreOnce (class_order classes)
once_in_class_order classes = (no_own classes 0 refl, (no_own classes 1 refl, once_filter is_own (in_byte_order classes) (once_in_order classes)))

pub low_in_class_order : (classes : List Iri) → 1 < length classes → (k : ℕ) → is_among (class_order classes) k ≡ true → k < length classes
low_in_class_order classes two k h =
    elim (or_cases (eqb 0 k) _ h) [
      | inl e ↦ let same = eqb-true 0 k e in omega (arith, two, same)
      | inr g ↦ elim (or_cases (eqb 1 k) _ g) [
        | inl e ↦ let same = eqb-true 1 k e in omega (arith, two, same)
        | inr e ↦ low_in_order classes k (filtered_from is_own (in_byte_order classes) k e).0
      ]
    ]

pub in_class_order : (classes : List Iri) (k : ℕ) → k < length classes → is_among (class_order classes) k ≡ true
in_class_order classes k l =
    let own = filter is_own (in_byte_order classes) in
    ⊎_elim
    (λ e. or_left (eqb 0 k) (eqb 1 k || is_among own k) (eq-eqb 0 k e))
    (λ a. or_right (eqb 0 k) (eqb 1 k || is_among own k) (⊎_elim
    (λ e. or_left (eqb 1 k) (is_among own k) (eq-eqb 1 k e))
    (λ b. or_right (eqb 1 k) (is_among own k)
    (filtered is_own (in_byte_order classes) k (in_order classes k l) (lt-ltb 1 k (behind k a b))))
    (cases_eq 1 k)))
    (cases_eq 0 k)
  where
    behind : (k : ℕ) → (0 ≡ k → ⊥) → (1 ≡ k → ⊥) → 1 < k
    behind k a b = omega (arith, a, b)

pub all_in_class_order : (classes : List Iri) → 1 < length classes → All (λ k. k < length classes) (class_order classes)
all_in_class_order classes two = all_among (λ k. k < length classes) (class_order classes) (low_in_class_order classes two)

-- neither it nor the order of names of another kind is longer than there are names
few : (names : List Iri) (order : List ℕ) → AreOnce order → ((k : ℕ) → is_among order k ≡ true → k < length names) → length order ≤ length names
few names order once low =
    let short = length_within order (numbers_below (length names)) once (λ k h. among_below (length names) k ∙ lt-ltb k (length names) (low k h)) in
    omega (arith, short, length-numbers (length names))

pub few_in_class_order : (classes : List Iri) → 1 < length classes → length (class_order classes) ≤ length classes
few_in_class_order classes two = few classes (class_order classes) (once_in_class_order classes) (low_in_class_order classes two)

pub few_in_order : (names : List Iri) → length (in_byte_order names) ≤ length names
few_in_order names = few names (in_byte_order names) (once_in_order names) (low_in_order names)
