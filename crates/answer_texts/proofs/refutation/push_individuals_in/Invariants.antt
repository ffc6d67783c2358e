use Rattle.std.proofs.Common.{◌≡◌, ◌++◌, take}
use Rattle.std.specs.List.{flat_map, enumerate_from}
use Rattle.answer_texts.specs.Reached.{individual_in}
use Rattle.answer_texts.proofs.refutation.push_individuals_in.Given as goal

abbrev pub invariant-loop-number : goal.invariant-loop-number
invariant-loop-number l = l.out.items ≡ l.fn.out.items ++ flat_map (individual_in l.ontology.names l.reached) (enumerate_from 0 (take l.number l.interpretation.individuals))
