use Rattle.std.proofs.lemmas.Bool.{both_ways}
use Rattle.std.proofs.Common.{length, [], ◌∷◌, ◌++◌, ◌+◌, refl, ap, sym, ◌∙◌, subst₂}
use Rattle.closure.specs.Closure.{Expression}
use Rattle.countermodel.specs.Sets.{admits, IsAdmitted}
use Rattle.countermodel.proofs.Listing.{HasListed, listed_more, listed_same}
use Rattle.countermodel.proofs.elements.list_expressions.Goals as goal
use Rattle.countermodel.proofs.elements.list_expressions.Goals.{then-contains+in_ok-push-2, else-contains}

pub loop-number-preserved : goal.loop-number-preserved
loop-number-preserved c =
    let test = IsAdmitted c.args.satisfiable.now in
    let contexts = c.loop-number.contexts.items in
    let places = c.loop-number.places.items in
    let number = c.loop-number.number in
    let placed = c.in_ok-push.ensures.items ∙ ap (λ n. places ++ n ∷ []) (c.in_ok-count.ensures ∙ ap length c.deref.ensures.value) in
    elim c.if-contains.branch [
      | then-contains+in_ok-push-2 w ↦
          subst₂ (HasListed test (number + 1)) (sym (ap (λ v. v.items) w.contexts-is ∙ w.in_ok-push-2.ensures.items)) (sym placed)
          (listed_more test number contexts places _ refl (sym c.contains.ensures ∙ w.if-contains.true) c.loop-number.invariant)
      | else-contains w ↦
          subst₂ (HasListed test (number + 1)) (sym (ap (λ v. v.items) w.contexts-is)) (sym placed)
          (listed_same test number contexts places (both_ways (admits c.args.satisfiable.now (Expression number)) (sym c.contains.ensures ∙ w.if-contains.false)) c.loop-number.invariant)
    ]
