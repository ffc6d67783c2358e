-- At which place of a list a number stands.
use Rattle.std.proofs.Common.{◌≡◌, ℕ, zero, suc, ◌<◌, List, [], ◌∷◌, length, slice_get, Some, Bool, true, false, cond, eqb, ◌||◌, refl, sym, ap, ◌∙◌}
use Rattle.std.proofs.lemmas.Bool.{eqb-true, false≢true}
use Rattle.std.proofs.lemmas.Option.{same_Some, slice_get_within}
use Rattle.taxonomy.specs.Superclasses.{is_among}

-- the place of the number, where it is among these
abbrev pub place : List ℕ → ℕ → ℕ
place [] k = zero
place (x ∷ xs) k = cond (eqb x k) zero (suc (place xs k))

pub at_place : (xs : List ℕ) (k : ℕ) → is_among xs k ≡ true → slice_get xs (place xs k) ≡ Some k
at_place [] k h = absurd (false≢true h)
at_place (x ∷ xs) k h = go (eqb x k) refl h (at_place xs k)
  where
    go : (b : Bool) → eqb x k ≡ b → (b || is_among xs k) ≡ true → (is_among xs k ≡ true → slice_get xs (place xs k) ≡ Some k) → slice_get (x ∷ xs) (cond b zero (suc (place xs k))) ≡ Some k
    go true e h next = ap Some (eqb-true x k e)
    go false e h next = next h

pub place_within : (xs : List ℕ) (k : ℕ) → is_among xs k ≡ true → place xs k < length xs
place_within xs k h = slice_get_within xs (place xs k) k (at_place xs k h)

-- no two numbers have one place
pub place_of_one : (xs : List ℕ) (a b : ℕ) → is_among xs a ≡ true → is_among xs b ≡ true → place xs a ≡ place xs b → a ≡ b
place_of_one xs a b h k e = same_Some a b (sym (at_place xs a h) ∙ ap (slice_get xs) e ∙ at_place xs b k)
