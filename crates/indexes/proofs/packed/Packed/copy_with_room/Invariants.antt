use Rattle.std.proofs.Common.{◌≡◌, take}
use Rattle.indexes.proofs.packed.Packed.copy_with_room.Given as goal

abbrev pub invariant-loop-place : goal.invariant-loop-place
invariant-loop-place l = l.copy ≡ take l.place l.self
