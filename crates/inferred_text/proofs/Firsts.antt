-- First places in a list that comes of numbers, each of its own.
use Rattle.std.proofs.Common.{◌≡◌, ℕ, ◌<◌, List, [], ◌∷◌, ◌++◌, map, Bool, true, false, eqb, ◌||◌, if◌then◌else◌, All, refl, sym, ap, ap₂, ◌∙◌}
use Rattle.std.specs.List.{list_any}
use Rattle.std.proofs.lemmas.Bool.{both_ways, eqb-true, false_from_ne_true}
use Rattle.std.proofs.Math.Bool.{or-false}
use Rattle.std.proofs.lemmas.List.Elements.{All-cons, All-head, All-nil, All-tail}
use Rattle.axioms.specs.Numbering.{first_places, first_places_from}
use Rattle.taxonomy.specs.Superclasses.{AreOnce, is_among}
use Rattle.inferred_text.proofs.Among.{among_head, among_tail}

seen_or_here : (a b c : Bool) → (a || (b || c)) ≡ true → ((b || a) || c) ≡ true
seen_or_here true true c h = refl
seen_or_here true false c h = refl
seen_or_here false true c h = refl
seen_or_here false false c h = h

-- no number of the one list is in the other
abbrev pub AreNew : List ℕ → List ℕ → Type 0
AreNew xs seen = (k : ℕ) → is_among xs k ≡ true → is_among seen k ≡ false

pub new_first : (x : ℕ) (xs seen : List ℕ) → AreNew (x ∷ xs) seen → is_among seen x ≡ false
new_first x xs seen new = new x (among_head x xs)

-- behind a number that is not among the rest
pub new_rest : (x : ℕ) (xs seen : List ℕ) → is_among xs x ≡ false → AreNew (x ∷ xs) seen → (k : ℕ) → is_among xs k ≡ true → (eqb x k || is_among seen k) ≡ false
new_rest x xs seen apart new k h =
    let other : eqb x k ≡ false = false_from_ne_true (eqb x k) (λ e. both_ways (is_among xs x) apart (ap (is_among xs) (eqb-true x k e) ∙ h)) in
    ap₂ (λ a b. a || b) other (new k (among_tail x k xs h))

module _ {X : Type 0} (f : ℕ → X) (same : X → X → Bool) (n : ℕ) (agrees : (a b : ℕ) → a < n → b < n → same (f a) (f b) ≡ eqb b a) where
  abbrev Low : List ℕ → Type 0
  Low xs = All (λ k. k < n) xs

  pub any_mapped : (a : ℕ) → a < n → (bs : List ℕ) → Low bs → list_any (same (f a)) (map f bs) ≡ is_among bs a
  any_mapped a l [] h = refl
  any_mapped a l (b ∷ bs) h = ap₂ (λ s t. s || t) (agrees a b l (All-head (λ k. k < n) b bs h)) (any_mapped a l bs (All-tail (λ k. k < n) b bs h))

  -- what was seen is left out
  none_new : (seen ys : List ℕ) → Low seen → Low ys → ((k : ℕ) → is_among ys k ≡ true → is_among seen k ≡ true) → first_places_from same (map f seen) (map f ys) ≡ []
  none_new seen [] s l h = refl
  none_new seen (y ∷ ys) s l h =
      let there : list_any (same (f y)) (map f seen) ≡ true = any_mapped y (All-head (λ k. k < n) y ys l) seen s ∙ h y (among_head y ys) in
      ap (λ b. if b then first_places_from same (map f seen) (map f ys) else f y ∷ first_places_from same (f y ∷ map f seen) (map f ys)) there
      ∙ none_new seen ys s (All-tail (λ k. k < n) y ys l) (λ k e. h k (among_tail y k ys e))

  -- new ones stay, and those behind them that are among these, or were seen, are left out
  pub new_stay : (seen xs ys : List ℕ) → Low seen → Low xs → Low ys → AreOnce xs → AreNew xs seen → ((k : ℕ) → is_among ys k ≡ true → (is_among seen k || is_among xs k) ≡ true) → first_places_from same (map f seen) (map f xs ++ map f ys) ≡ map f xs
  new_stay seen [] ys s l m o new h = none_new seen ys s m (λ k e. sym (or-false (is_among seen k)) ∙ h k e)
  new_stay seen (x ∷ xs) ys s l m o new h =
      let low = All-head (λ k. k < n) x xs l in
      let fresh : list_any (same (f x)) (map f seen) ≡ false = any_mapped x low seen s ∙ new_first x xs seen new in
      ap (λ b. if b then first_places_from same (map f seen) (map f xs ++ map f ys) else f x ∷ first_places_from same (f x ∷ map f seen) (map f xs ++ map f ys)) fresh
      ∙ ap (λ zs. f x ∷ zs) (new_stay (x ∷ seen) xs ys (All-cons (λ k. k < n) x seen low s) (All-tail (λ k. k < n) x xs l) m o.1 (new_rest x xs seen o.0 new)
      (λ k e. seen_or_here (is_among seen k) (eqb x k) (is_among xs k) (h k e)))

  -- numbers without repetition, and others among them: the first are the first places
  pub first_once : (xs ys : List ℕ) → Low xs → Low ys → AreOnce xs → ((k : ℕ) → is_among ys k ≡ true → is_among xs k ≡ true) → first_places same (map f xs ++ map f ys) ≡ map f xs
  first_once xs ys l m o h = new_stay [] xs ys (All-nil (λ k. k < n)) l m o (λ k e. refl) h
