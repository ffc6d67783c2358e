-- Members of lists of numbers.
use Rattle.std.specs.Prelude.{ℕ, List, Bool, ◌==◌}
use Rattle.std.specs.List.{list_any}

-- whether the number stands in the list
abbrev pub holds : List ℕ → ℕ → Bool
holds xs x = list_any (λ y. y == x) xs
