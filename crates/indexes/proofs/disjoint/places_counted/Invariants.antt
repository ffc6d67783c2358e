use Rattle.std.proofs.Common.{slice_get}
use Rattle.indexes.specs.Counts.{AreCountsOf}
use Rattle.indexes.specs.Disjoint.{operand_key}
use Rattle.indexes.proofs.disjoint.places_counted.Given as goal

abbrev pub invariant-loop-place : goal.invariant-loop-place
invariant-loop-place l = AreCountsOf operand_key (slice_get l.operands) l.place l.counts
