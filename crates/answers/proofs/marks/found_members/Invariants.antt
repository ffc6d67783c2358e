use Rattle.std.proofs.Common.{length, replicate, false}
use Rattle.answers.specs.Selections.{Answers}
use Rattle.answers.specs.declared.selection.Selection.TheVariants.{Members}
use Rattle.answers.proofs.MarkedFacts.{AreMarksAfter, IsFound}
use Rattle.answers.proofs.marks.found_members.Given as goal

abbrev pub invariant-loop-n : goal.invariant-loop-n
invariant-loop-n l = AreMarksAfter (IsFound (Answers l.indexed.ontology (Members l.expression)) l.indexed.saturation.state.facts l.marks) (replicate (length l.marks) false) l.n l.found
