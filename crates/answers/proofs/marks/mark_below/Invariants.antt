use Rattle.std.proofs.Common.{◌≡◌, ℕ, suc}
use Rattle.normal_forms.specs.declared.forms.Class2.TheVariants.{Expr}
use Rattle.inference.specs.declared.predicates.Predicate.TheVariants.{Class}
use Rattle.inference.specs.Predicates.{SaysAt, end_of}
use Rattle.answers.specs.Selections.{PutsClass}
use Rattle.answers.proofs.MarkedFacts.{AreMarksFrom}
use Rattle.answers.proofs.marks.mark_below.Given as goal

abbrev pub invariant-loop-next : goal.invariant-loop-next
invariant-loop-next l = record {
  next : (n : ℕ) → end_of l.next ≡ suc n → SaysAt (Class (Expr l.fn.above)) l.fn.indexed.saturation.state.facts n;
  marks : AreMarksFrom (PutsClass l.fn.indexed.ontology l.fn.above.0) l.fn.indexed.saturation.state.facts l.fn.found (end_of l.next) l.found;
}

abbrev pub decreases-loop-next : goal.decreases-loop-next
decreases-loop-next l = end_of l.next
