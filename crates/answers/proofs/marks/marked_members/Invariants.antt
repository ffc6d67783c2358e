use Rattle.std.proofs.Common.{◌≡◌, ℕ, suc, length, replicate, false}
use Rattle.normal_forms.specs.declared.forms.Class2.TheVariants.{Expr}
use Rattle.inference.specs.declared.predicates.Predicate.TheVariants.{Class}
use Rattle.inference.specs.Predicates.{SaysAt, end_of}
use Rattle.answers.specs.Selections.{Answers}
use Rattle.answers.specs.declared.selection.Selection.TheVariants.{Members}
use Rattle.answers.proofs.MarkedFacts.{AreMarksFrom}
use Rattle.answers.proofs.marks.marked_members.Given as goal

abbrev pub invariant-loop-next : goal.invariant-loop-next
invariant-loop-next l = record {
  next : (n : ℕ) → end_of l.next ≡ suc n → SaysAt (Class (Expr l.fn.expression)) l.fn.indexed.saturation.state.facts n;
  marks : AreMarksFrom (Answers l.fn.indexed.ontology (Members l.fn.expression)) l.fn.indexed.saturation.state.facts (replicate (length l.fn.marks) false) (end_of l.next) l.found;
}

abbrev pub decreases-loop-next : goal.decreases-loop-next
decreases-loop-next l = end_of l.next
