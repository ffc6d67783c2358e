use Rattle.std.proofs.Common.{ℕ, ◌<◌, List, length, get_or, sym, ◌∙◌, subst, arith}
use Rattle.std.specs.Prelude.{slice_set}
use Rattle.facts.specs.declared.contexts.Context as code
use Rattle.countermodel.specs.ContextLists.{PlacesExpressions}
use Rattle.countermodel.proofs.PlacedExpressions.{one_listed, one_placed}
use Rattle.countermodel.proofs.expressions.place_expressions.Goals as goal

pub loop-place-preserved : goal.loop-place-preserved
loop-place-preserved c =
    let numbers = c.args.expressions.now in
    let k = c.loop-place.place in
    let n : ℕ = get_or numbers k 0 in
    let low = c.loop-place-test.true in
    let xs = c.loop-place.contexts.items in
    let places = c.loop-place.places in
    let was = c.loop-place.invariant in
    let within : n < length places = omega (arith, c.requires.within k 0 low, c.loop-place.auto.places) in
    record {
      listed = c.in_ok-push.ensures.items ∙ one_listed numbers c.requires.ascend k low xs was.listed;
      placed = subst (λ (ys : List code.Context). PlacesExpressions ys (slice_set places n k)) (sym c.in_ok-push.ensures.items) (one_placed numbers c.requires.ascend k low xs was.listed places within was.placed);
    }
