use Rattle.countermodel.proofs.Searching.{IsReaching}
use Rattle.countermodel.proofs.search.reached_from.Given as goal

abbrev pub invariant-loop-next : goal.invariant-loop-next
invariant-loop-next l = IsReaching l.indexed.ontology l.indexed.saturation.normal.asked l.fn.from l.next l.search.found.items l.search.seen
