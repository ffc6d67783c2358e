-- A relation on classes as rows: which classes lie above each; and as lists.
use Rattle.std.specs.Prelude.{◌<◌, ◌≡◌, ℕ, List, [], Bool, true, length, slice_index_or, ◌||◌, ◌==◌}
use Rattle.std.specs.List.{All, list_any}
use Rattle.number_sets.specs.Members.{has}
use Rattle.number_sets.specs.Pieces.{list_at}
use Rattle.taxonomy.specs.Texts.{nothing_class}

-- the row of class c
abbrev pub row_at : List (List Bool) → ℕ → List Bool
row_at rows c = slice_index_or rows c []

-- whether class c lies below class d
abbrev pub lies_below : List (List Bool) → ℕ → ℕ → Bool
lies_below rows c d = has (row_at rows c) d

-- each row is over n numbers
abbrev pub AreOver : ℕ → List (List Bool) → Type 0
AreOver n rows = All (λ row. length row ≡ n) rows

-- each row is over as many numbers as there are rows
abbrev pub IsSquare : List (List Bool) → Type 0
IsSquare rows = AreOver (length rows) rows

-- each class lies below itself, and below what lies above a class that it lies below
pub record IsPreorder (rows : List (List Bool)) : Type 0 where
  pub reflexive : (c : ℕ) → c < length rows → lies_below rows c c ≡ true
  pub transitive : (c d e : ℕ) → c < length rows → d < length rows → e < length rows → lies_below rows c d ≡ true → lies_below rows d e ≡ true → lies_below rows c e ≡ true

-- ---- as lists of classes

-- the list of a has the number d
abbrev pub is_listed : List (List ℕ) → ℕ → ℕ → Bool
is_listed lists a d = list_any (λ e. e == d) (list_at lists a)

-- c lies below d by lists of superclasses: owl:Nothing, or d, is among those of c
abbrev pub is_below : List (List ℕ) → ℕ → ℕ → Bool
is_below lists c d = is_listed lists c nothing_class || is_listed lists c d
