use Rattle.std.proofs.Common.{◌≡◌, Contains, Some, map, take, slice_get, suc, ℕ}
use Rattle.explain.proofs.kept.renumbered.Given as goal

abbrev pub invariant-loop-number : goal.invariant-loop-number
invariant-loop-number l =
    (new : ℕ → ℕ) → ((n : ℕ) → Contains l.numbers (suc n) → slice_get l.places n ≡ Some (new (suc n))) →
    l.renumbered.items ≡ map new (take l.number-index l.numbers)
