-- Names that have a property, in byte order.
use Rattle.std.specs.Prelude.{◌≡◌, ◌<◌, ℕ, List, Bool, true, map, slice_get, Some}
use Rattle.std.specs.Borrow.{Bor}
use Rattle.std.specs.Global.{Vec}
use Rattle.std.specs.Cmp.Lexicographic.{slice_cmp}
use Rattle.std.specs.List.{AllPairs, Contains}
use Rattle.std.specs.Ordering.{is_lt, nat_cmp}
use Rattle.axioms.specs.Expression.{Iri}
use Rattle.axioms.specs.WellFormedness.{AreDistinct}
use Rattle.number_sets.specs.Members.{has}

-- each name stands before the later ones in byte order
abbrev pub AreInByteOrder : List Iri → Type 0
AreInByteOrder names = AllPairs (λ a b. is_lt (slice_cmp nat_cmp a b) ≡ true) names

-- exactly those of the names that have the property, each once and in byte order
pub record AreThose (names : List Iri) (P : Iri → Type 0) (answer : List Iri) : Type 0 where
  pub ordered : AreInByteOrder answer
  pub each : (name : Iri) → Contains answer name → Contains names name × P name
  pub all : (name : Iri) → Contains names name → P name → Contains answer name

-- names in groups, as calls give them
abbrev pub groups_in : List (Vec (Bor (List ℕ))) → List (List Iri)
groups_in groups = map (λ group. map (λ name. name.now) group.items) groups

-- ---- by number

abbrev pub IsMarked : List Bool → ℕ → Type 0
IsMarked marks n = has marks n ≡ true

-- the name has a number for which it holds
abbrev pub HasNumber : List Iri → (ℕ → Type 0) → Iri → Type 0
HasNumber names P name = (n : ℕ) × (slice_get names n ≡ Some name) × P n

-- the names of exactly the numbers for which it holds; no two of them equal
pub record AreNamesOf (names : List Iri) (P : ℕ → Type 0) (found : List Iri) : Type 0 where
  pub distinct : AreDistinct found
  pub each : (m : ℕ) (name : Iri) → slice_get found m ≡ Some name → HasNumber names P name
  pub all : (n : ℕ) (name : Iri) → slice_get names n ≡ Some name → P n → (m : ℕ) × (slice_get found m ≡ Some name)

-- the names that are marked, among the first k
abbrev pub AreMarkedBelow : (k : ℕ) → List Iri → List Bool → (found : List Iri) → Type 0
AreMarkedBelow k names marks found = AreNamesOf names (λ n. (n < k) × IsMarked marks n) found

-- the name has a number that is marked
abbrev pub HasMark : List Iri → List Bool → Iri → Type 0
HasMark names marks name = HasNumber names (IsMarked marks) name
