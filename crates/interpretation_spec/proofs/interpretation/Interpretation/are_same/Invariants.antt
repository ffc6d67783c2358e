use Rattle.std.proofs.Common.{ℕ, ◌<◌, get_or}
use Rattle.axioms.specs.Ontology.{expression}
use Rattle.interpretation_spec.specs.NamedInterpretation.{interpretation_of}
use Rattle.interpretation_spec.specs.Interpretation.{IsSame}
use Rattle.interpretation_spec.proofs.interpretation.Interpretation.are_same.Given as goal

abbrev pub invariant-loop-operand : goal.invariant-loop-operand
invariant-loop-operand l =
    (k : ℕ) → k < l.operand-index → IsSame (interpretation_of l.ontology.names l.self) (expression l.ontology (get_or l.operands 0 record { 0 = 0 }).0) (expression l.ontology (get_or l.operands k record { 0 = 0 }).0)
