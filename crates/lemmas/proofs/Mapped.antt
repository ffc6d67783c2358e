-- Lists that a function maps: their places, their members, and lists of lists of which one grows.
use Rattle.std.proofs.Common.{◌≡◌, ℕ, zero, suc, ◌+◌, ◌<◌, List, [], ◌∷◌, ◌++◌, length, get_or, map, replicate, set, slice_get, Some, All, Contains, refl, sym, ap, ap₂, ◌∙◌, subst, arith}
use Rattle.std.proofs.lemmas.Option.{none-some, same_Some, slice_get-get_or, slice_get_within, get_or_from_slice_get}
use Rattle.std.proofs.lemmas.List.{get_or-map, length-map, map-append, map-set, replicate-append-replicate}
use Rattle.lemmas.proofs.Members.{Contains-from_slice_get, slice_get-from_Contains}

-- a mapped element stands at the place of the element
pub slice_get_map : {X Y : Type 0} (f : X → Y) (xs : List X) (n : ℕ) (x : X) → slice_get xs n ≡ Some x → slice_get (map f xs) n ≡ Some (f x)
slice_get_map f [] n x e = absurd (none-some x e)
slice_get_map f (y ∷ xs) zero x e = ap (λ z. Some (f z)) (same_Some y x e)
slice_get_map f (y ∷ xs) (suc n) x e = slice_get_map f xs n x e

-- what a mapped list has at a place comes from the element there
pub slice_get_map_from : {X Y : Type 0} (f : X → Y) (xs : List X) (n : ℕ) (y : Y) → slice_get (map f xs) n ≡ Some y → (x : X) × (slice_get xs n ≡ Some x) × (f x ≡ y)
slice_get_map_from f [] n y e = absurd (none-some y e)
slice_get_map_from f (x ∷ xs) zero y e = (x, refl, same_Some (f x) y e)
slice_get_map_from f (x ∷ xs) (suc n) y e = slice_get_map_from f xs n y e

-- a member gives a member of the mapped list
pub Contains-map : {X Y : Type 0} (f : X → Y) (xs : List X) (x : X) → Contains xs x → Contains (map f xs) (f x)
Contains-map f xs x c = let p = slice_get-from_Contains xs x c in Contains-from_slice_get (map f xs) p.0 (f x) (slice_get_map f xs p.0 x p.1)

-- ---- what holds of each of a mapped list

-- what holds of each of a mapped list holds of what the element at a place is mapped to
pub mapped : {A B : Type 0} (P : B → Type 0) (f : A → B) (xs : List A) → All P (map f xs) → (n : ℕ) (x : A) → slice_get xs n ≡ Some x → P (f x)
mapped P f xs all n x h =
    let l : n < length xs = slice_get_within xs n x h in
    subst P (get_or-map f xs n x (f x) l ∙ ap f (get_or_from_slice_get xs n x x h)) (all n (f x) (omega (arith, length-map xs f)))

-- what holds of each of a mapped list holds of what each element is mapped to
pub All-from_map : {A B : Type 0} (P : B → Type 0) (f : A → B) (xs : List A) → All P (map f xs) → All (λ x. P (f x)) xs
All-from_map P f xs h k d l = mapped P f xs h k (get_or xs k d) (slice_get-get_or xs k d l)

-- ---- things that hold lists, one of which grows

-- the lists where one has an element more at its end
pub map-pushed : {V Y : Type 0} (items : V → List Y) (vs : List V) (now : List (List Y)) (k : ℕ) (x : Y) (old new : V) → k < length vs → map items vs ≡ now → old ≡ get_or vs k old → items new ≡ items old ++ x ∷ [] → map items (set vs k new) ≡ set now k (get_or now k [] ++ x ∷ [])
map-pushed items vs now k x old new l is at grown =
    map-set items vs k new
    ∙ ap (λ v. set (map items vs) k v) (grown ∙ ap (λ v. v ++ x ∷ []) (ap items at ∙ sym (get_or-map items vs k old [] l)))
    ∙ ap (λ v. set v k (get_or v k [] ++ x ∷ [])) is

-- empty lists, and one more
pub map-replicate_more : {V Y : Type 0} (items : V → List Y) (vs : List V) (n : ℕ) (v : V) → map items vs ≡ replicate n [] → items v ≡ [] → map items (vs ++ v ∷ []) ≡ replicate (n + 1) []
map-replicate_more items vs n v e h =
    map-append items vs (v ∷ []) ∙ ap₂ (λ xs x. xs ++ x ∷ []) e h ∙ replicate-append-replicate n 1 []
