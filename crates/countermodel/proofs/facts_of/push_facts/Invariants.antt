use Rattle.std.proofs.Common.{take}
use Rattle.countermodel.specs.FactsOf.{AddsFacts}
use Rattle.countermodel.proofs.facts_of.push_facts.Given as goal

abbrev pub invariant-loop-number : goal.invariant-loop-number
invariant-loop-number l = AddsFacts l.all (take l.number-index l.numbers) l.fn.facts.items l.facts.items
