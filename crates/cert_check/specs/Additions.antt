-- What listed rows add to an interpretation.
use Rattle.std.specs.Prelude.{◌≡◌, ℕ, ◌↔◌, ◌⊎◌, List, true, length, slice_get, Some}
use Rattle.std.specs.List.{Contains}
use Rattle.axioms.specs.Ontology.{Ontology, IsClassAt}
use Rattle.interpretation_spec.specs.NamedInterpretation.{is_target}
use Rattle.interpretation_spec.specs.NumberedInterpretation.{NumberedInterpretation}
use Rattle.cert_check.specs.Rows.{Adds}

-- the number of owl:Thing among the classes
abbrev pub thing_class : ℕ
thing_class = 0

-- some row does
abbrev pub SomeRow : {A : Type 0} → List A → (A → Type 0) → Type 0
SomeRow {A} rows P = (k : ℕ) × (row : A) × (slice_get rows k ≡ Some row) × P row

-- the row lists the element x for the class of number c
abbrev pub ListsMember : Ontology → ℕ × List ℕ → ℕ → ℕ → Type 0
ListsMember o row c x = IsClassAt o c row.0 × Contains row.1 x

-- some row lists it
abbrev pub IsListedMember : Ontology → List (ℕ × List ℕ) → ℕ → ℕ → Type 0
IsListedMember o rows c x = SomeRow rows (λ row. ListsMember o row c x)

-- the row leads from x to y by the property r
abbrev pub ListsPair : ℕ × ℕ × List ℕ → ℕ → ℕ → ℕ → Type 0
ListsPair row r x y = (row.0 ≡ r) × (row.1 ≡ x) × Contains row.2 y

-- some row does so
abbrev pub IsListedPair : List (ℕ × ℕ × List ℕ) → ℕ → ℕ → ℕ → Type 0
IsListedPair rows r x y = SomeRow rows (λ row. ListsPair row r x y)

-- the new interpretation has the members of the old one and those that are put, and else says the same
pub record AddsMembers (puts : ℕ → ℕ → Type 0) (old new : NumberedInterpretation) : Type 0 where
  pub size : new.size ≡ old.size
  pub many : length new.classes ≡ length old.classes
  pub classes : Adds puts old.classes new.classes
  pub pairs : new.pairs ≡ old.pairs
  pub individuals : new.individuals ≡ old.individuals

-- the new interpretation has the pairs of the old one and those that are put, and else says the same
pub record AddsPairs (puts : ℕ → ℕ → ℕ → Type 0) (old new : NumberedInterpretation) : Type 0 where
  pub size : new.size ≡ old.size
  pub classes : new.classes ≡ old.classes
  pub many : length new.pairs ≡ length old.pairs
  pub pairs : (r x y : ℕ) → (is_target new r x y ≡ true) ↔ ((is_target old r x y ≡ true) ⊎ puts r x y)
  pub individuals : new.individuals ≡ old.individuals

-- the new interpretation is the old one but for individuals, of which it has as many: each with an element in the list is that element
pub record PutsIndividuals (elements : List ℕ) (old new : NumberedInterpretation) : Type 0 where
  pub size : new.size ≡ old.size
  pub classes : new.classes ≡ old.classes
  pub pairs : new.pairs ≡ old.pairs
  pub many : length new.individuals ≡ length old.individuals
  pub each : (a x : ℕ) → slice_get elements a ≡ Some x → slice_get new.individuals a ≡ Some x
