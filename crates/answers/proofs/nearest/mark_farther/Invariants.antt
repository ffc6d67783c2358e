use Rattle.number_sets.specs.Pieces.{list_at}
use Rattle.answers.specs.Neighbours.{IsFartherOf}
use Rattle.answers.proofs.MarkedFacts.{AreMarksAfter, At}
use Rattle.answers.proofs.nearest.mark_farther.Given as goal

abbrev pub invariant-loop-high : goal.invariant-loop-high
invariant-loop-high l = AreMarksAfter (At (list_at l.lists l.low) (IsFartherOf l.lists l.marks l.side l.low)) l.fn.far l.high-index l.far
