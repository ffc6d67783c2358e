use Rattle.std.proofs.Common.{length, replicate, false}
use Rattle.answers.specs.Neighbours.{IsFartherFrom}
use Rattle.answers.proofs.MarkedFacts.{AreMarksAfter}
use Rattle.answers.proofs.nearest.far_marks.Given as goal

abbrev pub invariant-loop-low : goal.invariant-loop-low
invariant-loop-low l = AreMarksAfter (IsFartherFrom l.lists l.marks l.side) (replicate (length l.marks) false) l.low l.far
