-- A closure has one number of facts.
use Rattle.std.proofs.Common.{◌≡◌, ℕ, zero, suc, ◌≤◌, List, [], ◌∷◌, length, slice_get, Some, Contains, refl, sym, ap, ◌∙◌, arith}
use Rattle.std.proofs.lemmas.Option.{none-some, same_Some, slice_get_within, slice_get-get_or}
use Rattle.axioms.specs.WellFormedness.{AreDistinct}
use Rattle.facts.specs.declared.contexts.Fact.{Fact}
use Rattle.facts.specs.Closure.{Problem}
use Rattle.inference.specs.Derivations.{HasMoreFactsThan}
use Rattle.inference.specs.Completeness.{IsClosure}
use Rattle.lemmas.proofs.Members.{Contains-first, Contains-later, slice_get-from_Contains}
use Rattle.number_sets.proofs.Members.{length-le_from_below}

-- the places of facts in another list
places : (xs ys : List Fact) → ((x : Fact) → Contains xs x → Contains ys x) → List ℕ
places [] ys h = []
places (x ∷ xs) ys h = (h x (Contains-first x xs)).0 ∷ places xs ys (λ y k. h y (Contains-later x y xs k))

length-places : (xs ys : List Fact) (h : (x : Fact) → Contains xs x → Contains ys x) → length (places xs ys h) ≡ length xs
unfolding places
length-places [] ys h = refl
length-places (x ∷ xs) ys h = ap suc (length-places xs ys (λ y k. h y (Contains-later x y xs k)))

place_of : (xs ys : List Fact) (h : (x : Fact) → Contains xs x → Contains ys x) (k p : ℕ) → slice_get (places xs ys h) k ≡ Some p → (x : Fact) × (slice_get xs k ≡ Some x) × (slice_get ys p ≡ Some x)
unfolding places
place_of [] ys h k p g = absurd (none-some p g)
place_of (x ∷ xs) ys h zero p g =
    let there = h x (Contains-first x xs) in
    (x, refl, ap (slice_get ys) (sym (same_Some there.0 p g)) ∙ slice_get-get_or ys there.0 x there.1 ∙ ap (λ y. Some y) there.2)
place_of (x ∷ xs) ys h (suc k) p g = place_of xs ys (λ y j. h y (Contains-later x y xs j)) k p g

-- different facts of a list are at most as many as it has
length-le_from_Contains : (xs ys : List Fact) → AreDistinct xs → ((x : Fact) → Contains xs x → Contains ys x) → length xs ≤ length ys
length-le_from_Contains xs ys apart h =
    omega (
      arith,
      length-places xs ys h,
      length-le_from_below (places xs ys h) (length ys)
          (λ m n p g k.
          let a = place_of xs ys h m p g in
          let b = place_of xs ys h n p k in
          apart m n a.0 a.1 (b.1 ∙ ap (λ z. Some z) (same_Some b.0 a.0 (sym b.2 ∙ a.2))))
          (λ k p g. let a = place_of xs ys h k p g in slice_get_within ys p a.0 a.2),
    )

-- so a closure of at most so many facts has no more
pub not_more : (k : Problem) (facts : List Fact) (most : ℕ) → IsClosure k facts → length facts ≤ most → HasMoreFactsThan k most → ⊥
not_more k facts most closure within w =
    let few = length-le_from_Contains w.facts facts w.distinct (λ f c. let at = slice_get-from_Contains w.facts f c in (closure f).1 (w.each at.0 f at.1)) in
    absurd (omega (arith, few, w.many, within))
