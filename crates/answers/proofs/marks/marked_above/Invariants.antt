use Rattle.std.proofs.Common.{length, replicate, false}
use Rattle.answers.specs.Selections.{PutsInClass}
use Rattle.answers.proofs.MarkedFacts.{AreMarksAfter, At}
use Rattle.answers.proofs.marks.marked_above.Given as goal

abbrev pub invariant-loop-number : goal.invariant-loop-number
invariant-loop-number l = AreMarksAfter (At l.number-items (At l.facts (PutsInClass l.ontology l.context))) (replicate (length l.marks) false) l.number-index l.found
