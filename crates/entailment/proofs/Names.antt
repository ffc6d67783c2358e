-- Names that are longer than all others.
use Rattle.std.proofs.Common.{◌≡◌, ℕ, ◌+◌, ◌≤◌, List, [], ◌∷◌, All, get_or, length, map, slice_get, Some, take, ap, ◌∙◌, subst, sym, arith}
use Rattle.std.proofs.lemmas.List.{map-append}
use Rattle.std.proofs.lemmas.List.Elements.{All-append, All-cons, All-nil}
use Rattle.lemmas.proofs.Places.{take_push}

module _ {X : Type 0} (f : X → List ℕ) where
  -- the lists of the first k are at most so long
  abbrev pub AreAtMost : ℕ → List X → Type 0
  AreAtMost most xs = All (λ (name : List ℕ). length name ≤ most) (map f xs)

  pub one_more : (xs : List X) (k : ℕ) (x : X) (most more : ℕ) → slice_get xs k ≡ Some x → most ≤ more → length (f x) ≤ more → AreAtMost most (take k xs) → AreAtMost more (take (k + 1) xs)
  one_more xs k x most more at le here h =
      let P : List ℕ → Type 0 = λ name. length name ≤ more in
      let before : All P (map f (take k xs)) = λ n d l. (let less : length (get_or (map f (take k xs)) n d) ≤ most = h n d l in omega arith) in
      subst (All P) (sym (ap (map f) (take_push xs k x at) ∙ map-append f (take k xs) (x ∷ []))) (All-append P (map f (take k xs)) (f x ∷ []) before (All-cons P (f x) [] here (All-nil P)))
