use Rattle.std.proofs.Common.{◌≡◌, map, take}
use Rattle.countermodel.specs.ContextLists.{PlacesExpressions, expression_at}
use Rattle.countermodel.proofs.expressions.place_expressions.Given as goal

abbrev pub invariant-loop-place : goal.invariant-loop-place
invariant-loop-place l = record {
  listed : l.contexts.items ≡ map expression_at (take l.place l.expressions);
  placed : PlacesExpressions l.contexts.items l.places;
}
