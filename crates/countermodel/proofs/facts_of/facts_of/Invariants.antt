use Rattle.std.proofs.Common.{take}
use Rattle.countermodel.specs.Elements.{contexts_of}
use Rattle.countermodel.specs.FactsOf.{AreFactsOf}
use Rattle.countermodel.proofs.facts_of.facts_of.Given as goal

abbrev pub invariant-loop-context : goal.invariant-loop-context
invariant-loop-context l = AreFactsOf (contexts_of (take l.context-index l.contexts)) l.indexed.saturation.state.facts l.facts.items
