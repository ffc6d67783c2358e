-- Rows of pairs and of classes in the order of a certificate.
use Rattle.std.specs.Prelude.{◌≡◌, ◌↔◌, ℕ, ◌<◌, List, [], ◌∷◌, Bool, true, slice_get, Some, length, nat_lt, ◌==◌, ◌&&◌, ◌||◌, All}
use Rattle.std.specs.List.{AllPairs}
use Rattle.std.specs.List.Sorted.{IsNonDecreasing, IsStrictlyIncreasing}
use Rattle.certificate.specs.declared.listed.ClassRow.{ClassRow}
use Rattle.certificate.specs.declared.listed.PairRow.{PairRow}
use Rattle.certificate.specs.Writability.{IsPairBefore}
use Rattle.certificate.specs.View.{pair_row_of, targets_in}
use Rattle.number_sets.specs.Pieces.{list_at}
use Rattle.listed_model.specs.Listing.{targets_of}
use Rattle.listed_model.specs.Members.{holds}

-- the row stands before those of the property and the source
abbrev pub is_before : ℕ → ℕ → PairRow → Bool
is_before r x row = nat_lt row.property.0 r || (row.property.0 == r && nat_lt row.source x)

-- ascending by property and then by source, and so are the targets of each, which are some
pub record ArePairRows (rows : List PairRow) : Type 0 where
  pub ordered : AllPairs (λ p q. IsPairBefore (pair_row_of p) (pair_row_of q)) rows
  pub targets : All (λ row. IsStrictlyIncreasing (targets_in row.targets)) rows
  pub some : All (λ row. 0 < length (targets_in row.targets)) rows

-- ascending by class, and so are the elements of each
pub record AreClassRows (rows : List ClassRow) : Type 0 where
  pub ordered : AllPairs (λ p q. p.class.0 < q.class.0) rows
  pub elements : All (λ row. IsStrictlyIncreasing row.elements.items) rows

-- one of the first n
abbrev pub SomeBefore : {X : Type 0} → (X → Type 0) → List X → ℕ → Type 0
SomeBefore {X} P xs n = (k : ℕ) × (x : X) × (k < n) × (slice_get xs k ≡ Some x) × P x

-- each of the first n
abbrev pub AllBefore : {X : Type 0} → (X → Type 0) → List X → ℕ → Type 0
AllBefore {X} P xs n = (k : ℕ) (x : X) → k < n → slice_get xs k ≡ Some x → P x

-- a path from x to y along the properties of these numbers
abbrev pub HasListedPath : List (ℕ × ℕ × List ℕ) → List ℕ → ℕ → ℕ → Type 0
HasListedPath rows [] x y = x ≡ y
HasListedPath rows (r ∷ rs) x y = (z : ℕ) × (holds (targets_of rows r x) z ≡ true) × HasListedPath rows rs z y

-- the ends are those of the paths along the properties from one of the sources
abbrev pub AreEnds : List (ℕ × ℕ × List ℕ) → List ℕ → List ℕ → List ℕ → Type 0
AreEnds rows rs sources ends = (y : ℕ) → (holds ends y ≡ true) ↔ ((x : ℕ) × (holds sources x ≡ true) × HasListedPath rows rs x y)

-- each pair of the property r is one of the property s
abbrev pub LiesWithin : List (ℕ × ℕ × List ℕ) → ℕ → ℕ → Type 0
LiesWithin rows r s = (x y : ℕ) → holds (targets_of rows r x) y ≡ true → holds (targets_of rows s x) y ≡ true

-- the two properties have the same pairs
abbrev pub HaveSamePairs : List (ℕ × ℕ × List ℕ) → ℕ → ℕ → Type 0
HaveSamePairs rows r s = (x y : ℕ) → holds (targets_of rows r x) y ≡ holds (targets_of rows s x) y

-- from y the property leads to nothing but the targets
abbrev pub LeadsWithin : List (ℕ × ℕ × List ℕ) → ℕ → List ℕ → ℕ → Type 0
LeadsWithin rows r targets y = (z : ℕ) → holds (targets_of rows r y) z ≡ true → holds targets z ≡ true

-- from x it leads in one step to all that it leads to in two
abbrev pub ClosedAt : List (ℕ × ℕ × List ℕ) → ℕ → ℕ → Type 0
ClosedAt rows r x = (y : ℕ) → holds (targets_of rows r x) y ≡ true → LeadsWithin rows r (targets_of rows r x) y

-- the places of the rows that have y among their targets, ascending
pub record IsHolders (rows : List PairRow) (y : ℕ) (places : List ℕ) : Type 0 where
  pub ascending : IsNonDecreasing places
  pub those : (k : ℕ) → (holds places k ≡ true) ↔ ((row : PairRow) × (slice_get rows k ≡ Some row) × (holds (targets_in row.targets) y ≡ true))

-- the list of each element of the domain has the places of the rows that have it among their targets, ascending
abbrev pub AreHolders : List PairRow → ℕ → List (List ℕ) → Type 0
AreHolders rows domain lists = (y : ℕ) → y < domain → IsHolders rows y (list_at lists y)

-- a row at one of the places is of the source
abbrev pub IsSourceAmong : List PairRow → List ℕ → ℕ → Type 0
IsSourceAmong rows places x = (k : ℕ) × (row : PairRow) × (holds places k ≡ true) × (slice_get rows k ≡ Some row) × (row.source ≡ x)

-- the property joins x to one of the fillers
abbrev pub Joined : List (ℕ × ℕ × List ℕ) → ℕ → List ℕ → ℕ → Type 0
Joined rows r fillers x = (y : ℕ) × (holds (targets_of rows r x) y ≡ true) × (holds fillers y ≡ true)
