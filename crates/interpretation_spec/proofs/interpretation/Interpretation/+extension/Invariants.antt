use Rattle.std.proofs.Common.{◌≡◌, ℕ, ◌<◌, ◌↔◌, length, take, true, All}
use Rattle.axioms.specs.declared.ids.ExprId.{ExprId}
use Rattle.axioms.specs.Ontology.{expression}
use Rattle.interpretation_spec.specs.NamedInterpretation.{interpretation_of}
use Rattle.interpretation_spec.specs.Interpretation.{IsIn}
use Rattle.number_sets.specs.Members.{has}
use Rattle.interpretation_spec.proofs.interpretation.Interpretation.+extension.Given as goal

abbrev pub decreases-extension : goal.decreases-extension
decreases-extension l = l.expression.0

abbrev pub invariant-loop-operand : goal.invariant-loop-operand
invariant-loop-operand l = record {
  long : length l.row ≡ l.self.size;
  members : (x : ℕ) → x < l.self.size → (has l.row x ≡ true) ↔ All (λ (e : ExprId). IsIn (interpretation_of l.ontology.names l.self) (expression l.ontology e.0) x) (take l.operand-index l.operand-items);
}
