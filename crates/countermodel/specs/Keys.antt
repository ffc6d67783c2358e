-- Pairs as numbers, in a list for each property.
use Rattle.std.specs.Prelude.{◌≡◌, ◌/◌, ◌%◌, ◌^◌, ℕ, List}
use Rattle.std.specs.List.{Contains}
use Rattle.number_sets.specs.Pieces.{list_at}
use Rattle.countermodel.specs.Pairs.{pair}
use Rattle.countermodel.specs.declared.pair.Pair.{Pair}

-- the pair of the property with that number
abbrev pub pair_at : ℕ → ℕ → Pair
pair_at r key = pair r (key / 2 ^ 32) (key % 2 ^ 32)

-- the list of the pair's property has its number
abbrev pub HasPair : List (List ℕ) → Pair → Type 0
HasPair lists p = (key : ℕ) × Contains (list_at lists p.property.0) key × (pair_at p.property.0 key ≡ p)
