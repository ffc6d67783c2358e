use Rattle.std.proofs.Common.{◌≡◌, ℕ, [], List, ap, ap₂, ◌∙◌, ◌++◌, ◌∷◌, replicate, map, refl}
use Rattle.std.proofs.lemmas.List.{map_push, replicate_more}
use Rattle.interpretation_spec.specs.Fields.{kept_pairs, kept_targets}
use Rattle.number_sets.proofs.Tables.{table_one}
use Rattle.interpretation_spec.proofs.pairs.without_pairs.Goals as goal

pub loop-preserved : goal.loop-preserved
loop-preserved c = λ size.
    let made = c.new.result in
    let none : (x : ℕ) → kept_targets made x ≡ [] = λ x. rw c.new.ensures.empty refl in
    let empty : kept_pairs size made ≡ replicate size [] = table_one size (kept_targets made) [] none in
    ap (map (kept_pairs size)) c.in_ok-push.ensures.items
    ∙ map_push (kept_pairs size) c.loop.all.items made
    ∙ ap₂ (λ (xs : List (List (List ℕ))) (x : List (List ℕ)). xs ++ x ∷ []) (c.loop.invariant size) empty
    ∙ replicate_more c.loop.counter (replicate size [])
