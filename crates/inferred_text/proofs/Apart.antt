-- What comes of numbers, each of its own, is apart.
use Rattle.std.proofs.Common.{◌≡◌, ℕ, ◌<◌, List, [], ◌∷◌, ◌++◌, map, Bool, true, false, eqb, ◌||◌, All, refl, ap₂, ◌∙◌, subst}
use Rattle.std.proofs.lemmas.Bool.{or_parts}
use Rattle.std.proofs.lemmas.List.{map-append}
use Rattle.std.proofs.lemmas.List.Elements.{All-head, All-nil, All-push, All-tail}
use Rattle.std.proofs.lemmas.List.Folds.{list_any-append}
use Rattle.statements_text.specs.Sound.{AreApart}
use Rattle.taxonomy.specs.Superclasses.{AreOnce, is_among}
use Rattle.inferred_text.proofs.Firsts.{AreNew, any_mapped, new_first, new_rest}

module _ {X : Type 0} (f : ℕ → X) (same : X → X → Bool) (n : ℕ) (agrees : (a b : ℕ) → a < n → b < n → same (f a) (f b) ≡ eqb b a) where
  abbrev Low : List ℕ → Type 0
  Low xs = All (λ k. k < n) xs

  apart_from : (es xs : List ℕ) → Low es → Low xs → AreOnce xs → AreNew xs es → AreApart same (map f es) (map f xs)
  apart_from es [] s l o new = tt
  apart_from es (x ∷ xs) s l o new =
      let low = All-head (λ k. k < n) x xs l in
      let pushed : (k : ℕ) → is_among xs k ≡ true → is_among (es ++ x ∷ []) k ≡ false = λ k e.
      let parts = or_parts (eqb x k) (is_among es k) (new_rest x xs es o.0 new k e) in
      list_any-append _ es (x ∷ []) ∙ ap₂ (λ a b. a || (b || false)) parts.1 parts.0 in (
        any_mapped f same n agrees x low es s ∙ new_first x xs es new,
        subst (λ zs. AreApart same zs (map f xs)) (map-append f es (x ∷ [])) (apart_from (es ++ x ∷ []) xs (All-push (λ k. k < n) es x s low) (All-tail (λ k. k < n) x xs l) o.1 pushed),
      )

  -- what comes of numbers without repetition is apart
  pub apart_once : (xs : List ℕ) → Low xs → AreOnce xs → AreApart same [] (map f xs)
  apart_once xs l o = apart_from [] xs (All-nil (λ k. k < n)) l o (λ k e. refl)
