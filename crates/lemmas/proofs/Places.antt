-- What stands at a place of a list: in range, behind one more element, and in a prefix.
use Rattle.std.proofs.Common.{◌≡◌, ℕ, zero, suc, ◌+◌, ◌<◌, ◌⊎◌, inl, inr, List, [], ◌∷◌, ◌++◌, length, take, slice_get, Some, refl, ap, ◌∙◌, arith}
use Rattle.std.proofs.lemmas.Option.{none-some, same_Some, slice_get_within, get_or_from_slice_get}
use Rattle.std.proofs.lemmas.List.{take_more}

-- a place in range has an element
pub slice_get_there : {X : Type 0} (xs : List X) (n : ℕ) → n < length xs → (x : X) × (slice_get xs n ≡ Some x)
slice_get_there [] n l = absurd (omega arith)
slice_get_there (x ∷ xs) zero l = (x, refl)
slice_get_there (x ∷ xs) (suc n) l = slice_get_there xs n (omega arith)

-- ---- one more element

-- the element that was pushed stands at the end
pub slice_get_push : {X : Type 0} (xs : List X) (x : X) → slice_get (xs ++ x ∷ []) (length xs) ≡ Some x
slice_get_push [] x = refl
slice_get_push (y ∷ xs) x = slice_get_push xs x

-- what stands at a place stood there before, or is the one that was pushed
pub slice_get_push_cases : {X : Type 0} (xs : List X) (x : X) (n : ℕ) (y : X) → slice_get (xs ++ x ∷ []) n ≡ Some y → (slice_get xs n ≡ Some y) ⊎ ((n ≡ length xs) × (x ≡ y))
slice_get_push_cases [] x zero y e = inr (refl, same_Some x y e)
slice_get_push_cases [] x (suc n) y e = absurd (none-some y e)
slice_get_push_cases (z ∷ xs) x zero y e = inl e
slice_get_push_cases (z ∷ xs) x (suc n) y e =
    elim (slice_get_push_cases xs x n y e) [ inl h ↦ inl h | inr h ↦ inr (ap suc h.0, h.1) ]

-- each element of the first list stands in the second too, at its place
abbrev pub Keeps : {X : Type 0} → List X → List X → Type 0
Keeps {X} xs ys = (n : ℕ) (x : X) → slice_get xs n ≡ Some x → slice_get ys n ≡ Some x

-- a push moves no element
pub keeps_push : {X : Type 0} (xs : List X) (x : X) → Keeps xs (xs ++ x ∷ [])
keeps_push [] x n y e = absurd (none-some y e)
keeps_push (z ∷ xs) x zero y e = e
keeps_push (z ∷ xs) x (suc n) y e = keeps_push xs x n y e

-- ---- prefixes and ends

-- a prefix that is one longer has the element at its old end
pub take_push : {X : Type 0} (xs : List X) (n : ℕ) (x : X) → slice_get xs n ≡ Some x → take (n + 1) xs ≡ take n xs ++ x ∷ []
take_push xs n x e = take_more xs n x (slice_get_within xs n x e) ∙ ap (λ y. take n xs ++ y ∷ []) (get_or_from_slice_get xs n x x e)

-- what a prefix has at a place, the list has there
pub slice_get_take : {X : Type 0} (m : ℕ) (xs : List X) (n : ℕ) (x : X) → slice_get (take m xs) n ≡ Some x → (n < m) × (slice_get xs n ≡ Some x)
slice_get_take zero xs n x e = absurd (none-some x e)
slice_get_take (suc m) [] n x e = absurd (none-some x e)
slice_get_take (suc m) (y ∷ xs) zero x e = (omega arith, e)
slice_get_take (suc m) (y ∷ xs) (suc n) x e = let h = slice_get_take m xs n x e in (omega arith, h.1)

-- what the list has at a place before the end of a prefix, the prefix has there
pub take_slice_get : {X : Type 0} (m : ℕ) (xs : List X) (n : ℕ) (x : X) → n < m → slice_get xs n ≡ Some x → slice_get (take m xs) n ≡ Some x
take_slice_get zero xs n x l e = absurd (omega arith)
take_slice_get (suc m) [] n x l e = e
take_slice_get (suc m) (y ∷ xs) zero x l e = e
take_slice_get (suc m) (y ∷ xs) (suc n) x l e = take_slice_get m xs n x (omega arith) e
