use Rattle.std.proofs.Common.{◌++◌, ◌∷◌, [], ℕ, List, ap, sym, ◌∙◌}
use Rattle.lemmas.proofs.Ranges.{range_push}
use Rattle.answer_texts.proofs.looking.all_elements.Goals as goal

pub loop-element-preserved : goal.loop-element-preserved
loop-element-preserved c =
    let k = c.loop-element.element in
    c.in_ok-push.ensures.items ∙ ap (λ (xs : List ℕ). xs ++ k ∷ []) c.loop-element.invariant ∙ sym (range_push k)
