use Rattle.countermodel.proofs.Sets.{HasMarked}
use Rattle.countermodel.proofs.satisfiable.contexts_with.Given as goal

abbrev pub invariant-loop-fact : goal.invariant-loop-fact
invariant-loop-fact l = HasMarked l.ontology l.facts l.class l.fact-index l.set
