use Rattle.std.proofs.Common.{◌≡◌, ◌+◌, ◌++◌, ◌∷◌, [], length, sym, ap, ◌∙◌, subst₂, arith}
use Rattle.generated_part.specs.Part.{AreChosen}
use Rattle.generated_part.proofs.Choosing.{one_chosen, not_chosen}
use Rattle.generated_part.proofs.chosen.chosen_by.Goals as goal
use Rattle.generated_part.proofs.chosen.chosen_by.Goals.{then-contains+in_ok-push-2, else-contains}

pub loop-element-preserved : goal.loop-element-preserved
loop-element-preserved c =
    let marks = c.args.marks.now in
    let n = c.loop-element.element in
    let elements = c.loop-element.elements.items in
    let places = c.loop-element.places.items in
    let long : c.len.result ≡ length elements = omega (arith, c.len.ensures, c.loop-element.elements.ok) in
    let placed = c.in_ok-push.ensures.items ∙ ap (λ k. places ++ k ∷ []) long in
    elim c.if-contains.branch [
      | then-contains+in_ok-push-2 w ↦
          subst₂ (AreChosen marks (n + 1)) (sym (ap (λ v. v.items) w.elements-is ∙ w.in_ok-push-2.ensures.items)) (sym placed)
          (one_chosen marks n elements places c.loop-element.invariant (sym c.contains.ensures ∙ w.if-contains.true))
      | else-contains w ↦
          subst₂ (AreChosen marks (n + 1)) (sym (ap (λ v. v.items) w.elements-is)) (sym placed)
          (not_chosen marks n elements places c.loop-element.invariant (sym c.contains.ensures ∙ w.if-contains.false))
    ]
