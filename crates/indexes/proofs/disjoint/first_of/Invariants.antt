use Rattle.std.proofs.Common.{◌≤◌}
use Rattle.indexes.proofs.Sides.{AreFrom}
use Rattle.indexes.proofs.disjoint.first_of.Given as goal

abbrev pub invariant-loop-first : goal.invariant-loop-first
invariant-loop-first l = record {
  below : l.first ≤ l.place;
  each : AreFrom l.operands l.place l.first;
}

abbrev pub decreases-loop-first : goal.decreases-loop-first
decreases-loop-first l = l.first
