-- Ascending numbers as runs of neighbours, and numbers of earlier lines as distances.
use Rattle.std.specs.Prelude.{ℕ, suc, ◌+◌, ◌-◌, ◌≤◌, List, [], ◌∷◌, map, if◌then◌else◌, ◌==◌}
use Rattle.std.specs.List.{flat_map, range_with_len}

-- the numbers from the first to the last
pub record Run : Type 0 where
  pub first : ℕ
  pub last : ℕ

-- the number before the first run, where it is its neighbour, comes into it
abbrev pub with_number : ℕ → List Run → List Run
with_number x [] = record { first = x; last = x } ∷ []
with_number x (run ∷ runs) = if run.first == suc x then record { first = x; last = run.last } ∷ runs else record { first = x; last = x } ∷ run ∷ runs

-- the runs of numbers
abbrev pub runs_of : List ℕ → List Run
runs_of [] = []
runs_of (x ∷ xs) = with_number x (runs_of xs)

-- the numbers of a run
abbrev pub numbers_in : Run → List ℕ
numbers_in run = range_with_len run.first (suc (run.last - run.first))

-- .. of runs, in order
abbrev pub numbers_of : List Run → List ℕ
numbers_of runs = flat_map numbers_in runs

-- no run ends before it begins, and each begins at least 2 past the end of the one before
abbrev pub AreApart : List Run → Type 0
AreApart [] = Unit {0}
AreApart (run ∷ []) = run.first ≤ run.last
AreApart (run ∷ next ∷ runs) = (run.first ≤ run.last) × (run.last + 2 ≤ next.first) × AreApart (next ∷ runs)

-- how far the lines of these numbers stand before line n; and which lines stand so far before it
abbrev pub distances : ℕ → List ℕ → List ℕ
distances n ps = map (λ p. n - p) ps
