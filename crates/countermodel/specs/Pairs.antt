-- Pairs of elements, and the rows that they make.
use Rattle.std.specs.Prelude.{◌≡◌, ℕ, ◌<◌, ◌⊎◌, List, [], ◌∷◌, ◌++◌, map, length}
use Rattle.std.specs.List.{All, AllPairs, flat_map}
use Rattle.certificate.specs.Writability.{Ascends, IsPairBefore}
use Rattle.countermodel.specs.declared.pair.Pair.{Pair}

-- a property and an element, and the elements that it leads to from there
abbrev pub Row : Type 0
Row = ℕ × ℕ × List ℕ

abbrev pub pair : ℕ → ℕ → ℕ → Pair
pair r x y = record { property = record { 0 = r }; source = x; target = y }

-- p comes before q: by the property, then by the source, then by the target
abbrev pub ComesBefore : Pair → Pair → Type 0
ComesBefore p q = (p.property.0 < q.property.0) ⊎ ((p.property.0 ≡ q.property.0) × ((p.source < q.source) ⊎ ((p.source ≡ q.source) × (p.target < q.target))))

-- the pairs of a row
abbrev pub pairs_in : Row → List Pair
pairs_in row = map (pair row.0 row.1) row.2

-- the rows have these pairs in their order, one row for each property and source
pub record AreGrouped (pairs : List Pair) (rows : List Row) : Type 0 where
  pub together : flat_map pairs_in rows ≡ pairs
  pub ascend : AllPairs IsPairBefore rows
  pub targets : All (λ row. (0 < length row.2) × Ascends row.2) rows

-- the row of the pair's property and source with these targets
abbrev pub row_with : Pair → List ℕ → Row
row_with p targets = (p.property.0, p.source, targets)

-- the last row is of the pair's property and source
abbrev pub IsOfLast : Pair → List Row → Type 0
IsOfLast p rows = (front : List Row) × (targets : List ℕ) × (rows ≡ front ++ row_with p targets ∷ [])

-- with the pair in the last row, where that is of its property and source, and else in a row of its own
pub data AddsPair (p : Pair) (old new : List Row) : Type 0 where
  to_last : (front : List Row) (targets : List ℕ) → old ≡ front ++ row_with p targets ∷ [] → new ≡ front ++ row_with p (targets ++ p.target ∷ []) ∷ [] → AddsPair p old new
  as_row : (IsOfLast p old → ⊥) → new ≡ old ++ row_with p (p.target ∷ []) ∷ [] → AddsPair p old new
