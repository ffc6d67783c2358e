-- What holds of each element and each later one.
use Rattle.std.proofs.Common.{◌≡◌, ℕ, suc, ◌<◌, List, [], ◌∷◌, length, get_or, map, slice_get, Some, All, AllPairs, sym, subst₂, arith}
use Rattle.std.proofs.lemmas.Option.{slice_get-get_or}
use Rattle.std.proofs.lemmas.List.{get_or-map, length-map}

-- of the head and each other
pub AllPairs-head : {X : Type 0} (R : X → X → Type 0) (x : X) (xs : List X) → AllPairs R (x ∷ xs) → All (R x) xs
AllPairs-head R x xs h k d l = h 0 (suc k) d (omega arith) (omega arith)

-- of those of the tail
pub AllPairs-tail : {X : Type 0} (R : X → X → Type 0) (x : X) (xs : List X) → AllPairs R (x ∷ xs) → AllPairs R xs
AllPairs-tail R x xs h i j d l k = h (suc i) (suc j) d (omega arith) (omega arith)

-- of those of a mapped list
pub AllPairs-map : {A B : Type 0} (R : B → B → Type 0) (f : A → B) (xs : List A)
    → ((m n : ℕ) (c d : A) → m < n → slice_get xs m ≡ Some c → slice_get xs n ≡ Some d → R (f c) (f d)) → AllPairs R (map f xs)
AllPairs-map R f [] h m n d l k = absurd (omega arith)
AllPairs-map R f (x ∷ xs) h m n d l k =
    let k' : n < length (x ∷ xs) = omega (arith, length-map (x ∷ xs) f) in
    let l' : m < length (x ∷ xs) = omega arith in
    subst₂ R (sym (get_or-map f (x ∷ xs) m x d l')) (sym (get_or-map f (x ∷ xs) n x d k'))
    (h m n (get_or (x ∷ xs) m x) (get_or (x ∷ xs) n x) l (slice_get-get_or (x ∷ xs) m x l') (slice_get-get_or (x ∷ xs) n x k'))

-- what holds of the pairs of a mapped list holds of what the pairs of the list are mapped to
pub AllPairs-from_map : {X Y : Type 0} (R : Y → Y → Type 0) (f : X → Y) (xs : List X) → AllPairs R (map f xs) → AllPairs (λ a b. R (f a) (f b)) xs
AllPairs-from_map R f xs h i j d l k =
    let l' : i < length xs = omega arith in
    subst₂ R (get_or-map f xs i d (f d) l') (get_or-map f xs j d (f d) k) (h i j (f d) l (rw length-map k))
