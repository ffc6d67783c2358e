use Rattle.std.proofs.Common.{length}
use Rattle.number_sets.specs.Search.{search_of}
use Rattle.answer_texts.proofs.Reaching.{IsReaching}
use Rattle.answer_texts.proofs.reach.reached.Given as goal

abbrev pub invariant-loop-next : goal.invariant-loop-next
invariant-loop-next l = IsReaching l.interpretation (length l.ontology.names.properties) l.from l.next (search_of l.search)
