-- Sets of numbers with more of them put.
use Rattle.std.specs.Prelude.{ℕ, List, [], ◌∷◌, Bool, true, slice_set}

-- the set with these numbers put, those that are in its range
abbrev pub marked : List Bool → List ℕ → List Bool
marked row [] = row
marked row (x ∷ xs) = marked (slice_set row x true) xs
