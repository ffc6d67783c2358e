-- Lists that grow at their ends.
use Rattle.std.proofs.Common.{◌≡◌, ℕ, ◌+◌, ◌<◌, List, [], ◌∷◌, ◌++◌, length, get_or, map, replicate, sym, ap, ap₂, ◌∙◌}
use Rattle.std.specs.Prelude.{slice_set}
use Rattle.std.proofs.lemmas.List.{map-set, set-get_or, map-append, get_or-map, replicate-append-replicate}
use Rattle.number_sets.specs.Pieces.{list_at}

pub list_at-items : {X V : Type 0} (items : V → List X) (vs : List V) (k : ℕ) (d : V) → k < length vs → list_at (map items vs) k ≡ items (get_or vs k d)
list_at-items items vs k d l = get_or-map items vs k d [] l

pub map-pushed : {X V : Type 0} (items : V → List X) (vs : List V) (now : List (List X)) (k : ℕ) (x : X) (old new : V) → k < length vs → map items vs ≡ now → old ≡ get_or vs k old → items new ≡ items old ++ x ∷ [] → map items (slice_set vs k new) ≡ slice_set now k (list_at now k ++ x ∷ [])
map-pushed items vs now k x old new l is at grown =
    map-set items vs k new
    ∙ ap (λ v. slice_set (map items vs) k v) (grown ∙ ap (λ v. v ++ x ∷ []) (ap items at ∙ sym (list_at-items items vs k old l)))
    ∙ ap (λ v. slice_set v k (list_at v k ++ x ∷ [])) is

-- a list that is written again as it was
pub map-rewritten : {X V : Type 0} (items : V → List X) (vs : List V) (now : List (List X)) (k : ℕ) (old new : V) → k < length vs → map items vs ≡ now → old ≡ get_or vs k old → items new ≡ items old → map items (slice_set vs k new) ≡ now
map-rewritten items vs now k old new l is at same =
    map-set items vs k new
    ∙ ap (λ v. slice_set (map items vs) k v) (same ∙ ap items at ∙ sym (list_at-items items vs k old l))
    ∙ set-get_or (map items vs) k []
    ∙ is

pub map-replicate_more : {X V : Type 0} (items : V → List X) (vs : List V) (n : ℕ) (v : V) → map items vs ≡ replicate n [] → items v ≡ [] → map items (vs ++ v ∷ []) ≡ replicate (n + 1) []
map-replicate_more items vs n v e h =
    map-append items vs (v ∷ []) ∙ ap₂ (λ xs x. xs ++ x ∷ []) e h ∙ replicate-append-replicate n 1 []
