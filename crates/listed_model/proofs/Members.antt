-- Members of ascending lists.
use Rattle.std.proofs.Common.{◌≡◌, ◌↔◌, ℕ, ◌+◌, ◌-◌, ◌<◌, ◌≤◌, List, true, false, length, take, drop, ltb, ap, get_or, Contains, AllPairs, eqb, Result, Ok, Err, refl, sym, ◌∙◌, subst, arith, inl, inr}
use Rattle.std.specs.List.Sorted.{IsNonDecreasing, IsPartitionPoint, IsStrictlyIncreasing, IsBinarySearchResult}
use Rattle.std.specs.Ordering.{nat_cmp}
use Rattle.std.specs.Result.{is_ok}
use Rattle.std.proofs.lemmas.Bool.{cases_lt, eq-eqb, eqb-true, ltb-true, ltb-false, false_from_ne_true}
use Rattle.std.proofs.lemmas.List.{get_or_default, length-take-le, length-drop, take_all, get_or-take, get_or-drop}
use Rattle.std.proofs.lemmas.List.Folds.{Any-from_list_any, list_any-from_Any}
use Rattle.std.proofs.lemmas.List.Sorted.{searched}
use Rattle.std.specs.Cmp.{both_ways}
use Rattle.interpretation_spec.proofs.Ascending.{no_descent}
use Rattle.listed_model.specs.Members.{holds}

pub holds_from_Contains : (xs : List ℕ) (x : ℕ) → Contains xs x → holds xs x ≡ true
holds_from_Contains xs x (k, l, e) = list_any-from_Any (λ y. eqb y x) xs (k, x, l, e, eq-eqb x x refl)

pub Contains_from_holds : (xs : List ℕ) (x : ℕ) → holds xs x ≡ true → Contains xs x
Contains_from_holds xs x h =
    let (k, y, l, e, p) = Any-from_list_any (λ y. eqb y x) xs h in
    let same : y ≡ x = eqb-true y x p in
    (k, l, get_or_default xs k x y l ∙ e ∙ same)

pub same_holds : (xs ys : List ℕ) (x : ℕ) → (Contains xs x → Contains ys x) → (Contains ys x → Contains xs x) → holds xs x ≡ holds ys x
same_holds xs ys x f g = both_ways (holds xs x) (holds ys x) (λ h. holds_from_Contains ys x (f (Contains_from_holds xs x h))) (λ h. holds_from_Contains xs x (g (Contains_from_holds ys x h)))

pub rising : (xs : List ℕ) → AllPairs (λ x y. x < y) xs → IsStrictlyIncreasing xs
rising xs h k l = h k (k + 1) 0 (omega arith) l

-- a binary search finds members
pub found_holds : (xs : List ℕ) (x : ℕ) (r : Result ℕ ℕ) → IsStrictlyIncreasing xs → IsBinarySearchResult (λ y. nat_cmp y x) xs r → is_ok r ≡ holds xs x
found_holds xs x (Ok i) up found =
    let (l, e) = searched xs x (Ok i) found (no_descent xs up) in
    sym (holds_from_Contains xs x (i, l, get_or_default xs i x 0 l ∙ e))
found_holds xs x (Err i) up found =
    let (within, below, above) = searched xs x (Err i) found (no_descent xs up) in
    sym (false_from_ne_true (holds xs x) (λ h.
    let (k, l, e) = Contains_from_holds xs x h in
    let here : get_or xs k 0 ≡ x = get_or_default xs k 0 x l ∙ e in
    elim (cases_lt k i) [
      | inl b ↦ (let m = below k b in absurd (omega arith))
      | inr b ↦ (let m = above k b l in absurd (omega arith))
    ]))

-- ---- the numbers from one up to another

pub rest_rises : (xs : List ℕ) (s : ℕ) → IsNonDecreasing xs → IsNonDecreasing (drop s xs)
rest_rises xs s up i j d l m = let long = length-drop s xs in rw (get_or-drop s xs i d, get_or-drop s xs j d) (up (s + i) (s + j) d (omega arith) (omega arith))

-- what is left of a list from a place on, as the code takes it
pub to_end : (xs : List ℕ) (s : ℕ) → drop s xs ≡ take (length xs - s) (drop s xs)
to_end xs s = let long = length-drop s xs in sym (take_all (length xs - s) (drop s xs) (omega arith))

between_parts : (xs : List ℕ) (a b s t : ℕ) → s ≤ length xs → t ≤ length (drop s xs)
    → IsPartitionPoint (λ k. ltb k a ≡ true) (λ k. ltb k a ≡ false) xs s → IsPartitionPoint (λ k. ltb k b ≡ true) (λ k. ltb k b ≡ false) (drop s xs) t
    → (k : ℕ) → (holds (take t (drop s xs)) k ≡ true) ↔ ((holds xs k ≡ true) × (a ≤ k) × (k < b))
between_parts xs a b s t ls lt at_a at_b k =
    let many = length-drop s xs in
    let long = length-take-le t (drop s xs) lt in (
      λ h.
          let (j, l, e) = Contains_from_holds (take t (drop s xs)) k h in
          let here : get_or (drop s xs) j k ≡ k = sym (get_or-take t (drop s xs) j k (omega arith)) ∙ e in
          let there : get_or xs (s + j) k ≡ k = sym (get_or-drop s xs j k) ∙ here in
          let low = ltb-false (get_or xs (s + j) k) a (at_a.1 (s + j) k (omega arith) (omega arith)) in
          let high = ltb-true (get_or (drop s xs) j k) b (at_b.0 j k (omega arith) (omega arith)) in
          (holds_from_Contains xs k (s + j, omega arith, there), omega arith, omega arith),
      λ (h, la, lb).
          let (j, l, e) = Contains_from_holds xs k h in
          let low : s ≤ j = elim (cases_lt j s) [
            | inr m ↦ m
            | inl m ↦ (let v = ltb-true (get_or xs j k) a (at_a.0 j k (omega arith) m) in absurd (omega arith))
          ] in
          let place : s + (j - s) ≡ j = omega arith in
          let there : get_or (drop s xs) (j - s) k ≡ k = get_or-drop s xs (j - s) k ∙ ap (λ n. get_or xs n k) place ∙ e in
          let high : j - s < t = elim (cases_lt (j - s) t) [
            | inl m ↦ m
            | inr m ↦ (let v = ltb-false (get_or (drop s xs) (j - s) k) b (at_b.1 (j - s) k m (omega arith)) in absurd (omega arith))
          ] in
          holds_from_Contains (take t (drop s xs)) k (j - s, omega arith, get_or-take t (drop s xs) (j - s) k high ∙ there),
    )

pub between_means : (xs rest : List ℕ) (a b s t : ℕ) → drop s xs ≡ rest → s ≤ length xs → t ≤ length rest
    → IsPartitionPoint (λ k. ltb k a ≡ true) (λ k. ltb k a ≡ false) xs s → IsPartitionPoint (λ k. ltb k b ≡ true) (λ k. ltb k b ≡ false) rest t
    → (k : ℕ) → (holds (take t rest) k ≡ true) ↔ ((holds xs k ≡ true) × (a ≤ k) × (k < b))
between_means xs rest a b s t is ls lt at_a at_b =
    let Parted : List ℕ → Type 0 = λ (ys : List ℕ). IsPartitionPoint (λ (k : ℕ). ltb k b ≡ true) (λ (k : ℕ). ltb k b ≡ false) ys t in
    subst (λ (ys : List ℕ). (k : ℕ) → (holds (take t ys) k ≡ true) ↔ ((holds xs k ≡ true) × (a ≤ k) × (k < b))) is
    (between_parts xs a b s t ls (subst (λ (ys : List ℕ). t ≤ length ys) (sym is) lt) at_a (subst Parted (sym is) at_b))
