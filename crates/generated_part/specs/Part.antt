-- What is made of the elements that are chosen.
use Rattle.std.specs.Prelude.{◌≡◌, ◌↔◌, ℕ, ◌<◌, ◌≤◌, List, Bool, true, length, slice_get, slice_index, Some}
use Rattle.std.specs.List.{Contains}
use Rattle.std.specs.List.Sorted.{IsStrictlyIncreasing}
use Rattle.axioms.specs.declared.ids.ClassId.{ClassId}
use Rattle.axioms.specs.declared.ids.PropId.{PropId}
use Rattle.generated_part.specs.Elements.{class_id, prop_id}
use Rattle.generated_part.specs.declared.by_element.ByElement.{ByElement}
use Rattle.interpretation_spec.specs.NamedInterpretation.{is_target}
use Rattle.interpretation_spec.specs.NumberedInterpretation.{NumberedInterpretation, members_of}
use Rattle.number_sets.specs.Members.{has}
use Rattle.number_sets.specs.Pieces.{list_at}

-- the numbers below n that are marked, ascending, and for each number below n how many of them come before it
pub record AreChosen (marks : List Bool) (n : ℕ) (elements places : List ℕ) : Type 0 where
  pub ascend : IsStrictlyIncreasing elements
  pub each : (m x : ℕ) → slice_get elements m ≡ Some x → (x < n) × (has marks x ≡ true) × (slice_get places x ≡ Some m)
  pub all : (x : ℕ) → x < n → has marks x ≡ true → Contains elements x
  pub long : length places ≡ n

-- the element at that place is in the class
abbrev pub IsMemberAt : List (List ClassId) → List ℕ → ℕ → ℕ → Type 0
IsMemberAt classes elements c m = (x : ℕ) × (slice_get elements m ≡ Some x) × Contains (list_at classes x) (class_id c)

-- the element at the place m has a pair of the property to one whose place is n
abbrev pub LeadsFrom : List (PropId × ℕ) → List ℕ → ℕ → ℕ → Type 0
LeadsFrom pairs places r n = (y : ℕ) × Contains pairs (prop_id r, y) × (slice_index places y ≡ n)

abbrev pub IsPairAt : List (List (PropId × ℕ)) → List ℕ → List ℕ → ℕ → ℕ → ℕ → Type 0
IsPairAt pairs elements places r m n = (x : ℕ) × (slice_get elements m ≡ Some x) × LeadsFrom (list_at pairs x) places r n

-- the elements have what is said of them, by their places
pub record IsPart (rows : ByElement) (elements places : List ℕ) (part : NumberedInterpretation) : Type 0 where
  pub size : part.size ≡ length elements
  pub classes : (c m : ℕ) → 2 ≤ c → (has (members_of part c) m ≡ true) ↔ IsMemberAt rows.classes elements c m
  pub pairs : (r m n : ℕ) → (is_target part r m n ≡ true) ↔ IsPairAt rows.pairs elements places r m n
  pub individuals : (a x : ℕ) → slice_get rows.individuals.items a ≡ Some x → slice_get part.individuals a ≡ Some (slice_index places x)
