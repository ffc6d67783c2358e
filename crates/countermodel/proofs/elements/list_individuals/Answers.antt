use Rattle.std.proofs.lemmas.Bool.{both_ways}
use Rattle.std.proofs.Common.{length, [], ◌∷◌, ◌++◌, ◌+◌, refl, ap, sym, ◌∙◌, subst, subst₂}
use Rattle.countermodel.specs.Leading.{IsElementBy}
use Rattle.countermodel.proofs.Listing.{HasListedMore, no_individual, none_listed_more, individual_more, individual_same}
use Rattle.countermodel.proofs.elements.list_individuals.Goals as goal
use Rattle.countermodel.proofs.elements.list_individuals.Goals.{then-is_element+in_ok-push-2, else-is_element}

pub loop-number-init : goal.loop-number-init
loop-number-init c =
    let test = IsElementBy c.args.satisfiable.now c.args.groups.now in
    let before = c.args.contexts.now.items in
    subst (HasListedMore test before 0 before) (sym c.requires.places) (none_listed_more test 0 before [] before c.requires.contexts (no_individual test before c.requires.contexts))

pub loop-number-preserved : goal.loop-number-preserved
loop-number-preserved c =
    let test = IsElementBy c.args.satisfiable.now c.args.groups.now in
    let before = c.args.contexts.now.items in
    let contexts = c.loop-number.contexts.items in
    let places = c.loop-number.places.items in
    let number = c.loop-number.number in
    let placed = c.in_ok-push.ensures.items ∙ ap (λ n. places ++ n ∷ []) (c.in_ok-count.ensures ∙ ap length c.deref.ensures.value) in
    elim c.if-is_element.branch [
      | then-is_element+in_ok-push-2 w ↦
          subst₂ (HasListedMore test before (number + 1)) (sym (ap (λ v. v.items) w.contexts-is ∙ w.in_ok-push-2.ensures.items)) (sym placed)
          (individual_more test number contexts places before _ refl (c.is_element.ensures.0 w.if-is_element.true) c.loop-number.invariant)
      | else-is_element w ↦
          subst₂ (HasListedMore test before (number + 1)) (sym (ap (λ v. v.items) w.contexts-is)) (sym placed)
          (individual_same test number contexts places before (λ is. both_ways c.is_element.result w.if-is_element.false (c.is_element.ensures.1 is)) c.loop-number.invariant)
    ]
