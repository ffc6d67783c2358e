use Rattle.countermodel.specs.Sets.{IsAdmitted}
use Rattle.countermodel.proofs.Listing.{HasListed}
use Rattle.countermodel.proofs.elements.list_expressions.Given as goal

abbrev pub invariant-loop-number : goal.invariant-loop-number
invariant-loop-number l = HasListed (IsAdmitted l.satisfiable) l.number l.contexts.items l.places.items
