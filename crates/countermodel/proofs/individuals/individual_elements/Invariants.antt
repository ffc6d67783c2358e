use Rattle.countermodel.proofs.FirstIndividuals.{AreFirst}
use Rattle.countermodel.proofs.individuals.individual_elements.Given as goal

abbrev pub invariant-loop-number : goal.invariant-loop-number
invariant-loop-number l = AreFirst l.ontology l.elements l.number l.numbers.items
