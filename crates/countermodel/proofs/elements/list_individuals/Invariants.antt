use Rattle.countermodel.specs.Leading.{IsElementBy}
use Rattle.countermodel.proofs.Listing.{HasListedMore}
use Rattle.countermodel.proofs.elements.list_individuals.Given as goal

abbrev pub invariant-loop-number : goal.invariant-loop-number
invariant-loop-number l = HasListedMore (IsElementBy l.satisfiable l.groups) l.fn.contexts.items l.number l.contexts.items l.places.items
