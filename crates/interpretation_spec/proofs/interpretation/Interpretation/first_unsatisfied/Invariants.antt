use Rattle.interpretation_spec.specs.NamedInterpretation.{interpretation_of}
use Rattle.interpretation_spec.proofs.Unsatisfied.{SatisfiedBefore}
use Rattle.interpretation_spec.proofs.interpretation.Interpretation.first_unsatisfied.Given as goal

abbrev pub invariant-loop-index : goal.invariant-loop-index
invariant-loop-index l = SatisfiedBefore l.ontology (interpretation_of l.ontology.names l.self) l.index
