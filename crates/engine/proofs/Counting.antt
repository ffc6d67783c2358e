-- Different items of a list are at most as many as another list that has them all.
use Rattle.std.proofs.Common.{◌≡◌, ℕ, zero, suc, ◌≤◌, List, [], ◌∷◌, length, slice_get, Some, Contains, refl, sym, ap, ◌∙◌, arith}
use Rattle.std.proofs.lemmas.Option.{none-some, same_Some, slice_get_within, slice_get-get_or}
use Rattle.axioms.specs.WellFormedness.{AreDistinct}
use Rattle.lemmas.proofs.Members.{Contains-first, Contains-later}
use Rattle.number_sets.proofs.Members.{length-le_from_below}

-- the places of items in another list
places : {X : Type 0} (xs ys : List X) → ((x : X) → Contains xs x → Contains ys x) → List ℕ
places [] ys h = []
places (x ∷ xs) ys h = (h x (Contains-first x xs)).0 ∷ places xs ys (λ y k. h y (Contains-later x y xs k))

length-places : {X : Type 0} (xs ys : List X) (h : (x : X) → Contains xs x → Contains ys x) → length (places xs ys h) ≡ length xs
unfolding places
length-places [] ys h = refl
length-places (x ∷ xs) ys h = ap suc (length-places xs ys (λ y k. h y (Contains-later x y xs k)))

place_of : {X : Type 0} (xs ys : List X) (h : (x : X) → Contains xs x → Contains ys x) (k p : ℕ) → slice_get (places xs ys h) k ≡ Some p → (x : X) × (slice_get xs k ≡ Some x) × (slice_get ys p ≡ Some x)
unfolding places
place_of [] ys h k p g = absurd (none-some p g)
place_of (x ∷ xs) ys h zero p g =
    let there = h x (Contains-first x xs) in
    (x, refl, ap (slice_get ys) (sym (same_Some there.0 p g)) ∙ slice_get-get_or ys there.0 x there.1 ∙ ap (λ y. Some y) there.2)
place_of (x ∷ xs) ys h (suc k) p g = place_of xs ys (λ y j. h y (Contains-later x y xs j)) k p g

-- different items of a list are at most as many as it has
pub at_most : {X : Type 0} (xs ys : List X) → AreDistinct xs → ((x : X) → Contains xs x → Contains ys x) → length xs ≤ length ys
at_most xs ys apart h =
    omega (
      arith,
      length-places xs ys h,
      length-le_from_below (places xs ys h) (length ys)
          (λ m n p g k.
          let a = place_of xs ys h m p g in
          let b = place_of xs ys h n p k in
          apart m n a.0 a.1 (b.1 ∙ ap (λ z. Some z) (same_Some b.0 a.0 (sym b.2 ∙ a.2))))
          (λ k p g. let a = place_of xs ys h k p g in slice_get_within ys p a.0 a.2),
    )
