use Rattle.std.proofs.Common.{[], ◌∷◌, ◌++◌, ap, sym, ◌∙◌}
use Rattle.lemmas.proofs.Ranges.{range_push}
use Rattle.taxonomy.proofs.collecting.all_below.Goals as goal

pub loop-k-preserved : goal.loop-k-preserved
loop-k-preserved c = rw c.in_ok-push.ensures.items (ap (λ v. v ++ c.loop-k.k ∷ []) c.loop-k.invariant ∙ sym (range_push c.loop-k.k))
