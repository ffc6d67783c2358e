use Rattle.std.proofs.Common.{take}
use Rattle.countermodel.specs.Searching.{AddsContexts, IsSearch, LeadByFacts}
use Rattle.countermodel.proofs.search.follow.Given as goal

abbrev pub invariant-loop-number : goal.invariant-loop-number
invariant-loop-number l =
    IsSearch l.indexed.ontology l.search
    × AddsContexts (LeadByFacts l.indexed.ontology l.indexed.saturation.normal.asked l.indexed.saturation.state.facts (take l.number-index l.numbers)) l.fn.search.found.items l.search.found.items
