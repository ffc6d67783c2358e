-- What a filter keeps.
use Rattle.std.proofs.Common.{◌≡◌, Bool, true, false, ◌⊎◌, inl, inr, ℕ, ◌+◌, List, [], ◌∷◌, ◌++◌, take, slice_get, Some, Contains, cond, refl, sym, ap, ◌∙◌, arith}
use Rattle.std.proofs.lemmas.Bool.{both_ways}
use Rattle.std.proofs.lemmas.List.{append-nil}
use Rattle.std.proofs.lemmas.List.Elements.{All-contains, All-contains_itself, All-filter, filter_passes, filter-append, Contains-append_right, Contains-append_cases}
use Rattle.std.specs.List.{filter}
use Rattle.lemmas.proofs.Members.{Contains-one}
use Rattle.lemmas.proofs.Places.{take_push}

pub Contains-tail : {X : Type 0} (y : X) (xs : List X) (x : X) → Contains xs x → Contains (y ∷ xs) x
Contains-tail y xs x h = Contains-append_right (y ∷ []) xs x h

pub Contains-cons_cases : {X : Type 0} (y : X) (xs : List X) (x : X) → Contains (y ∷ xs) x → (y ≡ x) ⊎ Contains xs x
Contains-cons_cases y xs x h =
    elim (Contains-append_cases (y ∷ []) xs x h) [ inl a ↦ inl (Contains-one y x a) | inr b ↦ inr b ]

pub kept : {X : Type 0} (p : X → Bool) (xs : List X) (x : X) → Contains xs x → p x ≡ true → Contains (filter p xs) x
kept p [] x c e = absurd (omega (arith, c.1))
kept {X} p (y ∷ ys) x c e = go (p y) refl (λ d. kept p ys x d e) (Contains-cons_cases y ys x c)
  where
    go : (b : Bool) → p y ≡ b → (Contains ys x → Contains (filter p ys) x) → (y ≡ x) ⊎ Contains ys x → Contains (cond b (y ∷ filter p ys) (filter p ys)) x
    go true h rest (inl i) = (0, omega arith, i)
    go true h rest (inr d) = Contains-tail y (filter p ys) x (rest d)
    go false h rest (inl i) = absurd (both_ways (p y) h (ap p i ∙ e))
    go false h rest (inr d) = rest d

pub from_kept : {X : Type 0} (p : X → Bool) (xs : List X) (x : X) → Contains (filter p xs) x → Contains xs x
from_kept p xs x c = All-contains (Contains xs) (filter p xs) x (All-filter p (Contains xs) xs (All-contains_itself xs)) c

pub passes : {X : Type 0} (p : X → Bool) (xs : List X) (x : X) → Contains (filter p xs) x → p x ≡ true
passes p xs x c = All-contains (λ y. p y ≡ true) (filter p xs) x (filter_passes p xs) c

-- ---- as the list is gone through

-- the first elements with the next one
of_next : {X : Type 0} (p : X → Bool) (xs : List X) (k : ℕ) (x : X) → slice_get xs k ≡ Some x → filter p (take (k + 1) xs) ≡ filter p (take k xs) ++ filter p (x ∷ [])
of_next p xs k x at = ap (filter p) (take_push xs k x at) ∙ filter-append p (take k xs) (x ∷ [])

one_kept : {X : Type 0} (p : X → Bool) (x : X) → p x ≡ true → filter p (x ∷ []) ≡ x ∷ []
one_kept p x is = rw is refl

one_left_out : {X : Type 0} (p : X → Bool) (x : X) → p x ≡ false → filter p (x ∷ []) ≡ []
one_left_out p x is = rw is refl

pub next_kept : {X : Type 0} (p : X → Bool) (xs kept : List X) (k : ℕ) (x : X) → slice_get xs k ≡ Some x → p x ≡ true → kept ≡ filter p (take k xs) → kept ++ x ∷ [] ≡ filter p (take (k + 1) xs)
next_kept p xs kept k x at is before =
    ap (λ ys. ys ++ x ∷ []) before ∙ ap (λ ys. filter p (take k xs) ++ ys) (sym (one_kept p x is)) ∙ sym (of_next p xs k x at)

pub next_left_out : {X : Type 0} (p : X → Bool) (xs kept : List X) (k : ℕ) (x : X) → slice_get xs k ≡ Some x → p x ≡ false → kept ≡ filter p (take k xs) → kept ≡ filter p (take (k + 1) xs)
next_left_out p xs kept k x at is before =
    before ∙ sym (append-nil _) ∙ ap (λ ys. filter p (take k xs) ++ ys) (sym (one_left_out p x is)) ∙ sym (of_next p xs k x at)
