use Rattle.std.proofs.Common.{◌≡◌, ◌++◌, drop}
use Rattle.std.specs.Prelude.{codes}
use Rattle.answer_texts.proofs.Expressions.{texts}
use Rattle.answer_texts.proofs.expression.+push_expression.Given as goal

abbrev pub decreases-push_expression : goal.decreases-push_expression
decreases-push_expression l = l.expression.0

abbrev pub invariant-loop-operand : goal.invariant-loop-operand
invariant-loop-operand l =
    l.out.items ++ texts l.ontology l.lead (drop l.operand-index l.operand-items)
    ≡ l.initial.out.items ++ texts l.ontology (codes "ObjectIntersectionOf(") l.operand-items
