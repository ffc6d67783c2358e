use Rattle.classification.specs.Contradiction.{NoIndividualIsImpossible}
use Rattle.classification.proofs.consistent.has_no_impossible_individual.Given as goal

abbrev pub invariant-loop-number : goal.invariant-loop-number
invariant-loop-number l = NoIndividualIsImpossible l.number l.indexed.saturation.state.facts
