-- An interpretation says of each name what is said of its number.
use Rattle.std.proofs.Common.{◌≡◌, ℕ, zero, suc, ◌<◌, List, [], ◌∷◌, length, get_or, slice_get, Some, Option, unwrap_or, false, refl, ap, ◌∙◌, arith, inl, inr}
use Rattle.std.proofs.lemmas.Bool.{false_from_ne_true, cases_lt}
use Rattle.std.proofs.lemmas.List.{get_or_past}
use Rattle.std.proofs.lemmas.Option.{none-some, same_Some}
use Rattle.std.proofs.lemmas.Slice.Eq.{bytes_eq-Decides}
use Rattle.std.specs.Str.{bytes_eq}
use Rattle.lemmas.proofs.Places.{slice_get_there}
use Rattle.axioms.specs.Expression.{Iri, owl_thing, owl_nothing}
use Rattle.axioms.specs.Ontology.{Names, Ontology, name_at}
use Rattle.axioms.specs.WellFormedness.{IsOntology, AreDistinct}
use Rattle.interpretation_spec.specs.Interpretation.{Interpretation, IsInterpretation}
use Rattle.interpretation_spec.specs.NumberedInterpretation.{NumberedInterpretation, IsNumberedInterpretation, members_of}
use Rattle.interpretation_spec.specs.NamedInterpretation.{number_of, is_target, interpretation_of}
use Rattle.number_sets.specs.Members.{has}

-- the number of the name that stands at a place, and at no other
number_at : (names : List Iri) (c : ℕ) (name : Iri) → slice_get names c ≡ Some name → ((m : ℕ) → slice_get names m ≡ Some name → m ≡ c) → number_of names name ≡ c
number_at [] c name g only = absurd (none-some name g)
number_at (x ∷ xs) zero name g only = rw ((bytes_eq-Decides x name).1 (same_Some x name g)) refl
number_at (x ∷ xs) (suc c) name g only =
    let other : x ≡ name → ⊥ = λ e. (let at : 0 ≡ suc c = only 0 (ap Some e) in absurd (omega arith)) in
    let apart : bytes_eq x name ≡ false = false_from_ne_true (bytes_eq x name) (λ e. other ((bytes_eq-Decides x name).0 e)) in
    rw apart (ap suc (number_at xs c name g (λ m h. (let at : suc m ≡ suc c = only (suc m) h in omega arith))))

-- the number of a name, where no name stands twice
pub named : (names : List Iri) → AreDistinct names → (c : ℕ) (name : Iri) → slice_get names c ≡ Some name → number_of names name ≡ c
named names distinct c name g = number_at names c name g (λ m h. distinct m c name h g)

pub number_of-name_at : (names : List Iri) → AreDistinct names → (c : ℕ) → c < length names → number_of names (name_at names c) ≡ c
number_of-name_at names distinct c l =
    let (name, g) = slice_get_there names c l in
    ap (λ (o : Option Iri). number_of names (unwrap_or o [])) g ∙ named names distinct c name g

-- the interpretation says of names what is said of their numbers
pub record StandsFor (names : Names) (n : NumberedInterpretation) (i : Interpretation) : Type 0 where
  pub size : i.size ≡ n.size
  pub classes : (c x : ℕ) → c < length names.classes → i.class (name_at names.classes c) x ≡ has (members_of n c) x
  pub properties : (r x y : ℕ) → r < length names.properties → i.property (name_at names.properties r) x y ≡ is_target n r x y
  pub individuals : (a : ℕ) → a < length names.individuals → i.individual (name_at names.individuals a) ≡ get_or n.individuals a 0

pub stands : (o : Ontology) → IsOntology o → (n : NumberedInterpretation) → StandsFor o.names n (interpretation_of o.names n)
unfolding interpretation_of
stands o w n = record {
  size = refl;
  classes = λ c x l. ap (λ (k : ℕ). has (members_of n k) x) (number_of-name_at o.names.classes w.distinct_classes c l);
  properties = λ r x y l. ap (λ (k : ℕ). is_target n k x y) (number_of-name_at o.names.properties w.distinct_properties r l);
  individuals = λ a l. ap (λ (k : ℕ). get_or n.individuals k 0) (number_of-name_at o.names.individuals w.distinct_individuals a l);
}

within_domain : (xs : List ℕ) (size k : ℕ) → 0 < size → ((j d : ℕ) → j < length xs → get_or xs j d < size) → get_or xs k 0 < size
within_domain xs size k inhabited all =
    elim (cases_lt k (length xs)) [
      | inl l ↦ all k 0 l
      | inr l ↦ rw (get_or_past xs k 0 l) inhabited
    ]

pub stands_well : (o : Ontology) → IsOntology o → (n : NumberedInterpretation) → IsNumberedInterpretation n → IsInterpretation (interpretation_of o.names n)
unfolding interpretation_of
stands_well o w n h = record {
  inhabited = h.inhabited;
  individuals = λ a. within_domain n.individuals n.size (number_of o.names.individuals a) h.inhabited h.individuals;
  thing = λ x l. ap (λ (k : ℕ). has (members_of n k) x) (named o.names.classes w.distinct_classes 0 owl_thing w.thing_name) ∙ h.thing x l;
  nothing = λ x l. ap (λ (k : ℕ). has (members_of n k) x) (named o.names.classes w.distinct_classes 1 owl_nothing w.nothing_name) ∙ h.nothing x;
}

pub size_of : (names : Names) (n : NumberedInterpretation) → (interpretation_of names n).size ≡ n.size
unfolding interpretation_of
size_of names n = refl
