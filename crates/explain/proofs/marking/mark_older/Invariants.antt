use Rattle.explain.proofs.Below.{AreHandedOn}
use Rattle.explain.proofs.marking.mark_older.Given as goal

abbrev pub invariant-loop-end : goal.invariant-loop-end
invariant-loop-end l = AreHandedOn l.closed.saturation l.fn.marks l.marks l.end

abbrev pub decreases-loop-end : goal.decreases-loop-end
decreases-loop-end l = l.end
