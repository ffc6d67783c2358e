-- Lists by their last element.
use Rattle.std.proofs.Common.{◌≡◌, ◌+◌, ◌-◌, ◌<◌, ◌⊎◌, inl, inr, List, [], ◌∷◌, ◌++◌, length, get_or, All, AllPairs, refl, ap, subst, subst₂, arith}
use Rattle.std.proofs.lemmas.List.{get_or_append_left, get_or_push, length_push}
use Rattle.std.proofs.lemmas.List.Elements.{All-contains, Contains-push}
use Rattle.std.proofs.lemmas.List.Quantifiers.{all_pairs_push}

-- a list is empty or has a last element
pub ends : {X : Type 0} (xs : List X) → (xs ≡ []) ⊎ ((front : List X) × (last : X) × (xs ≡ front ++ last ∷ []))
ends [] = inl refl
ends {X} (x ∷ xs) = inr (go (ends xs))
  where
    go : (xs ≡ []) ⊎ ((front : List X) × (last : X) × (xs ≡ front ++ last ∷ [])) → (front : List X) × (last : X) × (x ∷ xs ≡ front ++ last ∷ [])
    go (inl e) = ([], x, ap (λ l. x ∷ l) e)
    go (inr (front, last, e)) = (x ∷ front, last, ap (λ l. x ∷ l) e)

pub at_end : {X : Type 0} (front : List X) (x d : X) → get_or (front ++ x ∷ []) (length (front ++ x ∷ []) - 1) d ≡ x
at_end front x d =
    let here : length front ≡ length (front ++ x ∷ []) - 1 = omega (arith, length_push front x) in
    get_or_push front x d (length (front ++ x ∷ []) - 1) here

-- ---- what holds of each, and of each two

pub All-front : {X : Type 0} (P : X → Type 0) (xs : List X) (y : X) → All P (xs ++ y ∷ []) → All P xs
All-front P xs y h = λ k d l. subst P (get_or_append_left xs (y ∷ []) d k l) (h k d (omega (arith, length_push xs y)))

pub All-last : {X : Type 0} (P : X → Type 0) (xs : List X) (y : X) → All P (xs ++ y ∷ []) → P y
All-last P xs y h = All-contains P (xs ++ y ∷ []) y h (Contains-push xs y)

pub pairs_of_front : {X : Type 0} (R : X → X → Type 0) (xs : List X) (y : X) → AllPairs R (xs ++ y ∷ []) → AllPairs R xs
pairs_of_front R xs y h = λ i j d l k.
    let low : i < length xs = omega arith in
    subst₂ R (get_or_append_left xs (y ∷ []) d i low) (get_or_append_left xs (y ∷ []) d j k) (h i j d l (omega (arith, length_push xs y)))

pub all_before_last : {X : Type 0} (R : X → X → Type 0) (xs : List X) (y : X) → AllPairs R (xs ++ y ∷ []) → All (λ x. R x y) xs
all_before_last R xs y h = λ k d l.
    subst₂ R (get_or_append_left xs (y ∷ []) d k l) (get_or_push xs y d (length xs) refl) (h k (length xs) d l (omega (arith, length_push xs y)))

pub pairs_with_last : {X : Type 0} (R : X → X → Type 0) (xs : List X) (y : X) → AllPairs R xs → All (λ x. R x y) xs → AllPairs R (xs ++ y ∷ [])
pairs_with_last R xs y before all = all_pairs_push R xs y before (λ k d l. all k d l)
