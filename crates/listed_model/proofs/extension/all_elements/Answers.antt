use Rattle.std.proofs.Common.{◌∙◌, sym, ap, ◌++◌, ◌∷◌, []}
use Rattle.lemmas.proofs.Ranges.{range_push}
use Rattle.listed_model.proofs.extension.all_elements.Goals as goal

pub loop-element-preserved : goal.loop-element-preserved
loop-element-preserved c = c.in_ok-push.ensures.items ∙ ap (λ xs. xs ++ c.loop-element.element ∷ []) c.loop-element.invariant ∙ sym (range_push c.loop-element.element)
