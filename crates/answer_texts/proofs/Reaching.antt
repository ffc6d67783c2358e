-- The search for what pairs lead to from an element.
use Rattle.std.proofs.Common.{◌≡◌, ◌↔◌, ℕ, zero, suc, ◌+◌, ◌<◌, ◌≤◌, true, false, inl, inr, List, [], ◌∷◌, ◌++◌, length, map, replicate, slice_get, Some, Contains, refl, sym, ap, ◌∙◌, subst, arith}
use Rattle.std.specs.List.{range_with_len}
use Rattle.std.proofs.lemmas.Bool.{cases_eq, cases_lt}
use Rattle.std.proofs.lemmas.List.{get_or_past}
use Rattle.std.proofs.lemmas.List.Elements.{All-cons, All-contains, Contains-append_left, Contains-append_right, Contains-append_cases}
use Rattle.std.proofs.lemmas.List.FromFn.{get_or-map-range_with_len, length-map-range_with_len}
use Rattle.std.proofs.lemmas.List.Sums.{fold-append}
use Rattle.lemmas.proofs.Members.{Contains-first, Contains-none, Contains-one}
use Rattle.interpretation_spec.specs.NumberedInterpretation.{NumberedInterpretation, IsNumberedInterpretation, targets_of}
use Rattle.number_sets.specs.Members.{has}
use Rattle.number_sets.specs.Pieces.{list_at}
use Rattle.number_sets.specs.Search.{IsBounded, LeadsTo, itself, onward, Search, with_number, with_starts}
use Rattle.number_sets.proofs.Members.{has_within, nothing_past}
use Rattle.number_sets.proofs.Searching.{IsSearchFrom, begun, followed, few, seen_led}
use Rattle.answer_texts.specs.Reached.{IsReached, all_targets}
use Rattle.answer_texts.specs.Reached as reaching
use Rattle.answer_texts.proofs.More.{range_more}

-- of each element what pairs of the first n properties lead to from it
abbrev pub steps : NumberedInterpretation → ℕ → List (List ℕ)
steps i n = map (all_targets i n) (range_with_len 0 i.size)

module _ (i : NumberedInterpretation) (n : ℕ) where
  pub as_many : length (steps i n) ≡ i.size
  as_many = length-map-range_with_len (all_targets i n) 0 i.size

  pub steps_at : (x : ℕ) → x < i.size → list_at (steps i n) x ≡ all_targets i n x
  steps_at x low = get_or-map-range_with_len (all_targets i n) 0 i.size x x [] low (omega arith)

-- ---- the targets of an element by some properties

module _ (i : NumberedInterpretation) (x : ℕ) where
  more_targets : (m : ℕ) → all_targets i (suc m) x ≡ all_targets i m x ++ targets_of i m x
  more_targets m = let e : suc m ≡ m + 1 = omega arith in ap (λ k. all_targets i k x) e ∙ range_more (λ r. targets_of i r x) m

  one_of : (n y : ℕ) → Contains (all_targets i n x) y → (r : ℕ) × Contains (targets_of i r x) y
  one_of zero y c = absurd (Contains-none y c)
  one_of (suc m) y c = elim (Contains-append_cases (all_targets i m x) (targets_of i m x) y (subst (λ (ys : List ℕ). Contains ys y) (more_targets m) c)) [
    | inl h ↦ one_of m y h
    | inr h ↦ (m, h)
  ]

  among : (n r y : ℕ) → r < n → Contains (targets_of i r x) y → Contains (all_targets i n x) y
  among zero r y low c = absurd (omega (arith, low))
  among (suc m) r y low c = subst (λ (ys : List ℕ). Contains ys y) (sym (more_targets m)) (elim (cases_eq r m) [
    | inl e ↦ Contains-append_right (all_targets i m x) (targets_of i m x) y (subst (λ k. Contains (targets_of i k x) y) e c)
    | inr apart ↦ Contains-append_left (all_targets i m x) (targets_of i m x) y (among m r y (omega (arith, low, apart)) c)
  ])

  -- what is found with the targets by one property more
  pub property_followed : (n : ℕ) (f : Search ℕ) → with_starts (λ y. y) (with_starts (λ y. y) f (all_targets i n x)) (targets_of i n x) ≡ with_starts (λ y. y) f (all_targets i (n + 1) x)
  property_followed n f =
      sym (ap (with_starts (λ y. y) f) (range_more (λ r. targets_of i r x) n)
      ∙ fold-append (λ (g : Search ℕ) (y : ℕ). with_number g y y) f (all_targets i n x) (targets_of i n x))

module _ (i : NumberedInterpretation) (well : IsNumberedInterpretation i) where
  -- a pair is one of a property and begins at an element
  begins : (r x y : ℕ) → Contains (targets_of i r x) y → (r < length i.pairs) × (x < i.size)
  begins r x y c =
      let low : x < length (list_at i.pairs r) = nothing_past (list_at i.pairs r) x y c in
      elim (cases_lt r (length i.pairs)) [
        | inl l ↦ (l, omega (arith, low, well.sources r l))
        | inr h ↦ absurd (omega (arith, low, ap length (get_or_past i.pairs r [] h)))
      ]

  ends : (r x y : ℕ) → Contains (targets_of i r x) y → y < i.size
  ends r x y c = All-contains (λ z. z < i.size) (targets_of i r x) y (well.targets r x).within c

  module _ (n : ℕ) where
    from_steps : (x y : ℕ) → Contains (list_at (steps i n) x) y → (r : ℕ) × Contains (targets_of i r x) y
    from_steps x y c =
        let low : x < i.size = omega (arith, nothing_past (steps i n) x y c, as_many i n) in
        one_of i x n y (subst (λ (ys : List ℕ). Contains ys y) (steps_at i n x low) c)

    pub bounded : IsBounded (λ (t : ℕ). t) (steps i n)
    bounded x y c = (let p = from_steps x y c in omega (arith, ends p.0 x y p.1, as_many i n))

    module _ (all : length i.pairs ≡ n) (from : ℕ) (there : from < i.size) where
      is_reached : (y : ℕ) → LeadsTo (λ x. x) (λ t. t) (from ∷ []) (steps i n) y → IsReached i from y
      is_reached _ (itself x c) = subst (IsReached i from) (Contains-one from x c) (reaching.itself there)
      is_reached _ (onward x y leads c) = (let p = from_steps x y c in reaching.onward p.0 x (is_reached x leads) p.1)

      leads_to : (y : ℕ) → IsReached i from y → LeadsTo (λ x. x) (λ t. t) (from ∷ []) (steps i n) y
      leads_to _ (reaching.itself low) = itself from (Contains-first from [])
      leads_to _ (reaching.onward {y} r x before c) =
          let p = begins r x y c in
          onward x y (leads_to x before) (subst (λ (ys : List ℕ). Contains ys y) (sym (steps_at i n x p.1)) (among i x n r y (omega (arith, p.0, all)) c))

      pub led_reached : (y : ℕ) → LeadsTo (λ x. x) (λ t. t) (from ∷ []) (steps i n) y ↔ IsReached i from y
      led_reached y = (is_reached y, leads_to y)

-- ---- the search

-- so many of the found elements are followed
abbrev pub IsReaching : NumberedInterpretation → (n from next : ℕ) → Search ℕ → Type 0
IsReaching i n from next f = IsSearchFrom (λ x. x) (λ t. t) (λ t k. t) (from ∷ []) (steps i n) next f

module _ (i : NumberedInterpretation) (n from : ℕ) (there : from < i.size) where
  pub begun_at : (found seen : Search ℕ) → found ≡ with_number seen from from → seen ≡ record { found = []; seen = replicate i.size false } → IsReaching i n from 0 found
  begun_at found seen is none =
      begun (λ x. x) (λ t. t) (λ t k. t) (from ∷ []) (steps i n) seen found i.size
      (All-cons (λ x. x < length (steps i n)) from [] (omega (arith, there, as_many i n)) (λ k d l. absurd (omega (arith, l))))
      (sym (as_many i n)) none is

  module _ (well : IsNumberedInterpretation i) (next : ℕ) (f : Search ℕ) (search : IsReaching i n from next f) where
    pub followed_at : (x : ℕ) → slice_get f.found next ≡ Some x → IsReaching i n from (next + 1) (with_starts (λ y. y) f (all_targets i n x))
    followed_at x here =
        let w = search.search in
        let low : x < i.size = omega (arith, has_within f.seen x (w.marked next x here), w.wide, as_many i n) in
        subst (λ (ts : List ℕ). IsReaching i n from (next + 1) (with_starts (λ y. y) f ts)) (steps_at i n x low)
        (followed (λ x. x) (λ t. t) (λ t k. t) (from ∷ []) (steps i n) (λ t k. refl) (bounded i well n) next x f search here)

    pub all_followed : i.size ≤ next → length f.found ≤ next
    all_followed high = omega (arith, few (λ x. x) (λ t. t) (λ t k. t) (from ∷ []) (steps i n) next f search, as_many i n, high)

    pub seen_reached : length i.pairs ≡ n → length f.found ≤ next → (y : ℕ) → (has f.seen y ≡ true) ↔ IsReached i from y
    seen_reached all done y =
        let seen = seen_led (λ x. x) (λ t. t) (λ t k. t) (from ∷ []) (steps i n) (λ t k. refl) next f search done y in
        let led = led_reached i well n all from there y in
        (λ h. led.0 (seen.0 h), λ h. seen.1 (led.1 h))

-- no element is reached from what is none
pub none_reached : (i : NumberedInterpretation) (from y : ℕ) → i.size ≤ from → IsReached i from y → ⊥
none_reached i from _ high (reaching.itself low) = omega (arith, high, low)
none_reached i from _ high (reaching.onward r x before c) = none_reached i from x high before
