use Rattle.std.proofs.Common.{◌≡◌, ℕ, ◌<◌, ◌||◌, ◌==◌, length, take}
use Rattle.std.specs.List.{list_any}
use Rattle.number_sets.specs.Members.{has}
use Rattle.interpretation_spec.proofs.pairs.put_targets.Given as goal

abbrev pub invariant-loop-target : goal.invariant-loop-target
invariant-loop-target l = record {
  len : length l.row ≡ length l.initial.row;
  members : (k : ℕ) → k < length l.initial.row → has l.row k ≡ (has l.initial.row k || list_any (λ z. z == k) (take l.target-index l.targets));
}
