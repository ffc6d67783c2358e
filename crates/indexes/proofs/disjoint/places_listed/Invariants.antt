use Rattle.std.proofs.Common.{length, slice_get}
use Rattle.indexes.specs.Disjoint.{operand_key}
use Rattle.indexes.proofs.Filling.{AreFilled}
use Rattle.indexes.proofs.disjoint.places_listed.Given as goal

abbrev pub invariant-loop-place : goal.invariant-loop-place
invariant-loop-place l = AreFilled operand_key (slice_get l.operands) (length l.operands) l.place l.filling
