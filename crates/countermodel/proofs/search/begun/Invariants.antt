use Rattle.std.proofs.Common.{◌↔◌, Contains}
use Rattle.facts.specs.declared.contexts.Context.{Context}
use Rattle.countermodel.specs.Searching.{IsSearch, IsStart}
use Rattle.countermodel.proofs.search.begun.Given as goal

abbrev pub invariant-loop-number : goal.invariant-loop-number
invariant-loop-number l = IsSearch l.ontology l.search × ((x : Context) → Contains l.search.found.items x ↔ IsStart l.ontology l.fn.from l.number x)
