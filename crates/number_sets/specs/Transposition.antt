-- Lists of numbers turned around.
use Rattle.std.specs.Prelude.{ℕ, List, [], ◌∷◌, length, ◌==◌, if◌then◌else◌}
use Rattle.std.specs.List.{flat_map, range_with_len}
use Rattle.number_sets.specs.Pieces.{list_at}

-- x for each time that k stands among the numbers
abbrev pub copies : ℕ → ℕ → List ℕ → List ℕ
copies x k numbers = flat_map (λ y. if y == k then x ∷ [] else []) numbers

-- of the first n lists those that have k, ascending
abbrev pub holders_below : ℕ → List (List ℕ) → ℕ → List ℕ
holders_below n lists k = flat_map (λ i. copies i k (list_at lists i)) (range_with_len 0 n)

-- the lists that have k, ascending: each once for each time that it has k
abbrev pub holders : List (List ℕ) → ℕ → List ℕ
holders lists k = holders_below (length lists) lists k
