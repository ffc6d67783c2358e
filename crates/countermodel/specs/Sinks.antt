-- What sinks of rows take.
use Rattle.std.specs.Prelude.{List, [], ◌∷◌, ◌++◌}

-- wherever it started, it took the row as the last one
abbrev pub TakesRow : {S R : Type 0} → (S → S → List R → Type 0) → R → S → S → Type 0
TakesRow {S} {R} adds row old new = (start : S) (rows : List R) → adds start old rows → adds start new (rows ++ row ∷ [])

-- it took rows of which P holds
pub record Adds {R : Type 0} (P took : List R → Type 0) : Type 0 where
  pub rows : List R
  pub are : P rows
  pub added : took rows
