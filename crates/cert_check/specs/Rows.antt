-- Rows of numbers, and lines.
use Rattle.std.specs.Prelude.{◌≡◌, ℕ, ◌↔◌, ◌⊎◌, List, Bool, true, slice_get, slice_set, Some}
use Rattle.certificate.specs.Certificate.{Conclusion, Line}
use Rattle.taxonomy.specs.Relation.{row_at, lies_below}

-- the rows with one more number in one of them
abbrev pub with_number_at : List (List Bool) → ℕ → ℕ → List (List Bool)
with_number_at rows place number = slice_set rows place (slice_set (row_at rows place) number true)

-- some line says so
abbrev pub SomeLine : List Line → (Conclusion → Type 0) → Type 0
SomeLine lines P = (k : ℕ) × (line : Line) × (slice_get lines k ≡ Some line) × P line.conclusion

-- the new rows have the numbers of the old ones, and those that the conclusion adds
abbrev pub Adds : (ℕ → ℕ → Type 0) → List (List Bool) → List (List Bool) → Type 0
Adds puts old new = (c d : ℕ) → (lies_below new c d ≡ true) ↔ ((lies_below old c d ≡ true) ⊎ puts c d)
