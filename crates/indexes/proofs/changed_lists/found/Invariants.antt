use Rattle.std.proofs.Common.{◌≡◌, ◌<◌, ℕ, List, slice_get, Some}
use Rattle.indexes.specs.declared.keys.Key.{Key}
use Rattle.indexes.proofs.changed_lists.found.Given as goal

abbrev pub invariant-loop-place : goal.invariant-loop-place
invariant-loop-place l = (i : ℕ) (c : Key × List ℕ) → i < l.place → slice_get l.changed i ≡ Some c → ¬ (c.0 ≡ l.key)
