-- What a list is longer than.
use Rattle.std.specs.Prelude.{◌≡◌, ℕ, ◌-◌, List, length, take, slice_get, Some, None}
use Rattle.std.specs.declared.option.Option.{Option}

-- the number of the list without its last member, or none where that is one member alone
abbrev pub IsShorter : List (List ℕ) → Option ℕ → List ℕ → Type 0
IsShorter lists None list = length list ≡ 2
IsShorter lists (Some n) list = slice_get lists n ≡ Some (take (length list - 1) list)
