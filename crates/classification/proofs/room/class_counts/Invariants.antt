use Rattle.std.proofs.Common.{◌≡◌, length}
use Rattle.classification.proofs.room.class_counts.Given as goal

abbrev pub invariant-loop-number : goal.invariant-loop-number
invariant-loop-number l = length l.room.items ≡ l.number
