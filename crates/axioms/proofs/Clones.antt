-- Lists whose elements are clones.
use Rattle.std.proofs.Common.{◌≡◌, List, [], ◌∷◌, map, refl, ap₂}
use Rattle.std.specs.List.{AllZip}

-- two lists whose elements have the same view
pub same_views : {A B : Type 0} (f : A → B) (xs ys : List A) → AllZip (λ a b. f b ≡ f a) xs ys → map f ys ≡ map f xs
same_views f [] [] h = refl
same_views f [] (y ∷ ys) h = absurd h
same_views f (x ∷ xs) [] h = absurd h
same_views f (x ∷ xs) (y ∷ ys) h = ap₂ (λ a as'. a ∷ as') h.0 (same_views f xs ys h.1)
