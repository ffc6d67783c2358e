use Rattle.countermodel.proofs.Members.{HasPut}
use Rattle.countermodel.proofs.class_rows.members.Given as goal

abbrev pub invariant-loop-fact : goal.invariant-loop-fact
invariant-loop-fact l = HasPut l.ontology l.elements l.facts l.fact-index l.lists
