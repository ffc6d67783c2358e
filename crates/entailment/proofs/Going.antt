-- Parts that are tested one after the other.
use Rattle.std.proofs.Common.{◌≡◌, ℕ, ◌+◌, ◌⊎◌, inl, inr, ⊎_elim, ◌<◌, ◌≤◌, List, [], ◌∷◌, ◌++◌, Bool, true, false, Result, Ok, Err, All, drop, length, slice_get, Some, take, refl, sym, ap, ◌∙◌, subst, arith}
use Rattle.std.specs.List.{flat_map, range_with_len}
use Rattle.std.proofs.lemmas.Bool.{false≢true}
use Rattle.std.proofs.lemmas.Grind.{flat_map-append}
use Rattle.std.proofs.lemmas.List.{append-nil, take-append-drop, take_all}
use Rattle.std.proofs.lemmas.List.Elements.{All-append, All-cons, All-head, All-nil, All-tail}
use Rattle.std.proofs.lemmas.List.FromFn.{get_or-range_with_len, length-range_with_len}
use Rattle.std.proofs.lemmas.Option.{slice_get-get_or}
use Rattle.axioms.specs.Ontology.{Ontology, Axiom}
use Rattle.entailment.proofs.Moving.{all_back, all_front}
use Rattle.entailment.specs.Testers.{AreFewInTests, IsFollowing, IsTested, IsTold, IsUntold}
use Rattle.entailment.specs.declared.fault.TestFault.{TestFault}
use Rattle.entailment.specs.declared.fault.TestFault.TheVariants.{Limit, TooManyNames, Memory}
use Rattle.lemmas.proofs.Places.{take_push}

module _ (o : Ontology) (n : ℕ) where
  -- all of them follow, by tests within the limit
  abbrev pub Goes : List Axiom → Type 0
  Goes parts = All (IsFollowing o) parts × AreFewInTests o parts n

  pub goes_none : Goes []
  goes_none = (All-nil (IsFollowing o), λ part t. absurd t)

  -- ---- two lists, one behind the other

  tested_front : (xs ys : List Axiom) (part : Axiom) → IsTested o xs part → IsTested o (xs ++ ys) part
  tested_front [] ys part t = absurd t
  tested_front (x ∷ xs) ys part (inl same) = inl same
  tested_front (x ∷ xs) ys part (inr t) = inr (t.0, tested_front xs ys part t.1)

  tested_back : (xs ys : List Axiom) (part : Axiom) → All (IsFollowing o) xs → IsTested o ys part → IsTested o (xs ++ ys) part
  tested_back [] ys part all t = t
  tested_back (x ∷ xs) ys part all t = inr (All-head (IsFollowing o) x xs all, tested_back xs ys part (All-tail (IsFollowing o) x xs all) t)

  tested_of : (xs ys : List Axiom) (part : Axiom) → IsTested o (xs ++ ys) part → IsTested o xs part ⊎ (All (IsFollowing o) xs × IsTested o ys part)
  tested_of [] ys part t = inr (All-nil (IsFollowing o), t)
  tested_of (x ∷ xs) ys part (inl same) = inl (inl same)
  tested_of (x ∷ xs) ys part (inr t) =
      elim (tested_of xs ys part t.1) [ inl h ↦ inl (inr (t.0, h)) | inr h ↦ inr (All-cons (IsFollowing o) x xs t.0 h.0, h.1) ]

  few_on : (xs ys : List Axiom) → AreFewInTests o xs n → (All (IsFollowing o) xs → AreFewInTests o ys n) → AreFewInTests o (xs ++ ys) n
  few_on xs ys few later part t = ⊎_elim (λ h. few part h) (λ h. later h.0 part h.1) (tested_of xs ys part t)

  -- where all of the first list follow, what is told of the second
  pub goes_behind : (xs ys : List Axiom) (b : Bool) → Goes xs → IsTold o ys n (Ok b) → b ≡ true → Goes (xs ++ ys)
  goes_behind xs ys b goes told is = (All-append (IsFollowing o) xs ys goes.0 (told.0.0 is), few_on xs ys goes.1 (λ h. told.1))

  -- a list of which not all follow, and whatever behind it
  pub stops : (xs ys : List Axiom) (b : Bool) → IsTold o xs n (Ok b) → b ≡ false → IsTold o (xs ++ ys) n (Ok false)
  stops xs ys b told is =
      let none : All (IsFollowing o) xs → ⊥ = λ all. false≢true (sym is ∙ told.0.1 all) in
      ((λ t. absurd (false≢true t), λ all. absurd (none (all_front (IsFollowing o) xs ys all))), few_on xs ys told.1 (λ all. absurd (none all)))

  pub stops_behind : (xs ys : List Axiom) (b : Bool) → Goes xs → IsTold o ys n (Ok b) → b ≡ false → IsTold o (xs ++ ys) n (Ok false)
  stops_behind xs ys b goes told is =
      ((λ t. absurd (false≢true t), λ all. absurd (false≢true (sym is ∙ told.0.1 (all_back (IsFollowing o) xs ys all)))), few_on xs ys goes.1 (λ h. told.1))

  pub untold_front : (xs ys : List Axiom) (fault : TestFault) → IsUntold o xs n fault → IsUntold o (xs ++ ys) n fault
  untold_front xs ys Limit h = (h.0, tested_front xs ys h.0 h.1, h.2)
  untold_front xs ys TooManyNames h = (h.0, tested_front xs ys h.0 h.1, h.2)
  untold_front xs ys Memory h = tt

  pub untold_behind : (xs ys : List Axiom) (fault : TestFault) → All (IsFollowing o) xs → IsUntold o ys n fault → IsUntold o (xs ++ ys) n fault
  untold_behind xs ys Limit all h = (h.0, tested_back xs ys h.0 all h.1, h.2)
  untold_behind xs ys TooManyNames all h = (h.0, tested_back xs ys h.0 all h.1, h.2)
  untold_behind xs ys Memory all h = tt

  -- all follow
  pub told_all : (parts : List Axiom) → Goes parts → IsTold o parts n (Ok true)
  told_all parts goes = ((λ t. goes.0, λ all. refl), goes.1)

  -- what is told of the second list, where all of the first follow, is told of both
  pub told_behind : (xs ys : List Axiom) (r : Result Bool TestFault) → Goes xs → IsTold o ys n r → IsTold o (xs ++ ys) n r
  told_behind xs ys (Ok true) goes told = told_all (xs ++ ys) (goes_behind xs ys true goes told refl)
  told_behind xs ys (Ok false) goes told = stops_behind xs ys false goes told refl
  told_behind xs ys (Err fault) goes told = untold_behind xs ys fault goes.0 told

  -- a fault that is handed on
  pub handed_on : (parts : List Axiom) (r : Result Bool TestFault) (told fault : TestFault) → r ≡ Err told → told ≡ fault → IsUntold o parts n fault → IsTold o parts n r
  handed_on parts r told fault is same h = subst (IsTold o parts n) (sym is) (subst (IsUntold o parts n) (sym same) h)

  -- ---- what each of a list gives

  module _ {X : Type 0} (f : X → List Axiom) (xs : List X) (k : ℕ) (x : X) (at : slice_get xs k ≡ Some x) where
    pushed : flat_map f (take (k + 1) xs) ≡ flat_map f (take k xs) ++ f x
    pushed = ap (flat_map f) (take_push xs k x at) ∙ flat_map-append f (take k xs) (x ∷ []) ∙ ap (λ ys. flat_map f (take k xs) ++ ys) (append-nil (f x))

    whole : flat_map f xs ≡ (flat_map f (take k xs) ++ f x) ++ flat_map f (drop (k + 1) xs)
    whole =
        ap (flat_map f) (sym (take-append-drop (k + 1) xs))
        ∙ flat_map-append f (take (k + 1) xs) (drop (k + 1) xs)
        ∙ ap (λ ys. ys ++ flat_map f (drop (k + 1) xs)) pushed

    pub goes_on : (b : Bool) → Goes (flat_map f (take k xs)) → IsTold o (f x) n (Ok b) → b ≡ true → Goes (flat_map f (take (k + 1) xs))
    goes_on b goes told is = subst Goes (sym pushed) (goes_behind (flat_map f (take k xs)) (f x) b goes told is)

    pub stops_at : (b : Bool) → Goes (flat_map f (take k xs)) → IsTold o (f x) n (Ok b) → b ≡ false → IsTold o (flat_map f xs) n (Ok false)
    stops_at b goes told is =
        let P : List Axiom → Type 0 = λ parts. IsTold o parts n (Ok false) in
        subst P (sym whole) (stops (flat_map f (take k xs) ++ f x) (flat_map f (drop (k + 1) xs)) false (stops_behind (flat_map f (take k xs)) (f x) b goes told is) refl)

    pub untold_at : (fault : TestFault) → Goes (flat_map f (take k xs)) → IsUntold o (f x) n fault → IsUntold o (flat_map f xs) n fault
    untold_at fault goes h =
        let P : List Axiom → Type 0 = λ parts. IsUntold o parts n fault in
        subst P (sym whole) (untold_front (flat_map f (take k xs) ++ f x) (flat_map f (drop (k + 1) xs)) fault (untold_behind (flat_map f (take k xs)) (f x) fault goes.0 h))

  pub told_whole : {X : Type 0} (f : X → List Axiom) (xs : List X) (k : ℕ) → length xs ≤ k → Goes (flat_map f (take k xs)) → IsTold o (flat_map f xs) n (Ok true)
  told_whole f xs k many goes =
      let P : List Axiom → Type 0 = λ parts. IsTold o parts n (Ok true) in
      subst P (ap (flat_map f) (take_all k xs many)) (told_all (flat_map f (take k xs)) goes)

-- the numbers below one, by places
pub number_at : (n k : ℕ) → k < n → slice_get (range_with_len 0 n) k ≡ Some k
number_at n k low =
    let there : k < length (range_with_len 0 n) = omega (arith, low, length-range_with_len 0 n) in
    slice_get-get_or (range_with_len 0 n) k 0 there ∙ ap (λ m. Some m) (get_or-range_with_len 0 n k 0 low ∙ omega arith)

-- and all of them
pub numbers_all : (n k : ℕ) → n ≤ k → length (range_with_len 0 n) ≤ k
numbers_all n k le = omega (arith, le, length-range_with_len 0 n)
