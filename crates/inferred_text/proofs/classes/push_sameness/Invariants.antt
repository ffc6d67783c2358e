use Rattle.std.proofs.Common.{take}
use Rattle.axioms.specs.View.{expr_numbers}
use Rattle.inferred_text.proofs.Operands.{AreClassesAt}
use Rattle.inferred_text.proofs.classes.push_sameness.Given as goal

abbrev pub invariant-loop-class : goal.invariant-loop-class
invariant-loop-class l = AreClassesAt l.ontology (take l.class-index l.classes) (expr_numbers l.operands.items)
