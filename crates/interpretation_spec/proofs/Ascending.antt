-- Ascending numbers with one more.
use Rattle.std.proofs.Common.{◌≡◌, ℕ, zero, suc, ◌+◌, ◌<◌, ◌≤◌, List, [], ◌∷◌, length, get_or, All, AllPairs, refl, sym, ap, arith, inl, inr}
use Rattle.std.specs.List.{insert}
use Rattle.std.specs.List.Sorted.{IsStrictlyIncreasing}
use Rattle.std.proofs.lemmas.Bool.{cases_lt, cases_order, lt-ltb, le-ltb, eq-eqb, ne_eqb}
use Rattle.std.proofs.lemmas.List.Elements.{All-nil, All-cons, All-head, All-tail}
use Rattle.std.proofs.lemmas.List.Kept.{AllPairs-from_increasing, AllPairs-cons}
use Rattle.lemmas.proofs.Pairs.{AllPairs-head, AllPairs-tail}
use Rattle.interpretation_spec.specs.NumberedInterpretation.{with_number, AreElements}

abbrev Rises : List ℕ → Type 0
Rises xs = AllPairs (λ x y. x < y) xs

-- which of the three cases the head is
data Head (n x : ℕ) (xs : List ℕ) : Type 0 where
  before : n < x → with_number n (x ∷ xs) ≡ n ∷ x ∷ xs → Head n x xs
  here : n ≡ x → with_number n (x ∷ xs) ≡ x ∷ xs → Head n x xs
  after : x < n → with_number n (x ∷ xs) ≡ x ∷ with_number n xs → Head n x xs

head : (n x : ℕ) (xs : List ℕ) → Head n x xs
head n x xs =
    elim (cases_order n x) [
      | inl e ↦ here e (let k : x ≤ n = omega arith in rw (le-ltb n x k, eq-eqb n x e) refl)
      | inr (inl l) ↦ before l (rw (lt-ltb n x l) refl)
      | inr (inr l) ↦ after l (let k : x ≤ n = omega arith in rw (le-ltb n x k, ne_eqb n x (λ e. omega arith)) refl)
    ]

pub All-with_number : (P : ℕ → Type 0) (n : ℕ) (xs : List ℕ) → P n → All P xs → All P (with_number n xs)
All-with_number P n [] p h = All-cons P n [] p h
All-with_number P n (x ∷ xs) p h =
    let rest = All-with_number P n xs p (All-tail P x xs h) in
    elim (head n x xs) [
      | before l e ↦ rw e (All-cons P n (x ∷ xs) p h)
      | here s e ↦ rw e h
      | after l e ↦ rw e (All-cons P x (with_number n xs) (All-head P x xs h) rest)
    ]

rises-with_number : (n : ℕ) (xs : List ℕ) → Rises xs → Rises (with_number n xs)
rises-with_number n [] h = AllPairs-cons (λ a b. a < b) n [] (All-nil (λ y. n < y)) h
rises-with_number n (x ∷ xs) h =
    let least = AllPairs-head (λ a b. a < b) x xs h in
    let rest = rises-with_number n xs (AllPairs-tail (λ a b. a < b) x xs h) in
    elim (head n x xs) [
      | before l e ↦ rw e (AllPairs-cons (λ a b. a < b) n (x ∷ xs) (All-cons (λ y. n < y) x xs l (λ k d b. let m = least k d b in omega arith)) h)
      | here s e ↦ rw e h
      | after l e ↦ rw e (AllPairs-cons (λ a b. a < b) x (with_number n xs) (All-with_number (λ y. x < y) n xs l least) rest)
    ]

increasing : (xs : List ℕ) → Rises xs → IsStrictlyIncreasing xs
increasing xs h k l = h k (k + 1) 0 (omega arith) l

pub AreElements-with_number : (size n : ℕ) (xs : List ℕ) → n < size → AreElements size xs → AreElements size (with_number n xs)
AreElements-with_number size n xs l h = record {
  ascending = increasing (with_number n xs) (rises-with_number n xs (AllPairs-from_increasing xs h.ascending));
  within = All-with_number (λ x. x < size) n xs l h.within;
}

-- ---- how it is made

there : (n : ℕ) (xs : List ℕ) (k : ℕ) → Rises xs → k < length xs → get_or xs k 0 ≡ n → xs ≡ with_number n xs
there n [] k h l e = absurd (omega arith)
there n (x ∷ xs) zero h l e =
    elim (head n x xs) [
      | before m f ↦ absurd (omega arith)
      | here s f ↦ sym f
      | after m f ↦ absurd (omega arith)
    ]
there n (x ∷ xs) (suc k) h l e =
    let m : x < get_or xs k 0 = AllPairs-head (λ a b. a < b) x xs h k 0 (omega arith) in
    let rest = there n xs k (AllPairs-tail (λ a b. a < b) x xs h) (omega arith) e in
    elim (head n x xs) [
      | before b f ↦ absurd (omega arith)
      | here s f ↦ absurd (omega arith)
      | after b f ↦ rw f (ap (λ t. x ∷ t) rest)
    ]

inserted : (n : ℕ) (xs : List ℕ) (p : ℕ) → p ≤ length xs → ((k : ℕ) → k < p → get_or xs k 0 < n) → ((k : ℕ) → p ≤ k → k < length xs → n < get_or xs k 0) → insert xs p n ≡ with_number n xs
inserted n [] zero l below above = refl
inserted n [] (suc p) l below above = absurd (omega arith)
inserted n (x ∷ xs) zero l below above =
    let m : n < x = above 0 (omega arith) (omega arith) in
    elim (head n x xs) [
      | before b f ↦ sym f
      | here s f ↦ absurd (omega arith)
      | after b f ↦ absurd (omega arith)
    ]
inserted n (x ∷ xs) (suc p) l below above =
    let m : x < n = below 0 (omega arith) in
    let rest = inserted n xs p (omega arith) (λ k b. below (suc k) (omega arith)) (λ k b c. above (suc k) (omega arith) (omega arith)) in
    elim (head n x xs) [
      | before b f ↦ absurd (omega arith)
      | here s f ↦ absurd (omega arith)
      | after b f ↦ rw f (ap (λ t. x ∷ t) rest)
    ]

pub with_number_there : (n : ℕ) (xs : List ℕ) (k : ℕ) → IsStrictlyIncreasing xs → k < length xs → get_or xs k 0 ≡ n → xs ≡ with_number n xs
with_number_there n xs k h = there n xs k (AllPairs-from_increasing xs h)

pub with_number_inserted : (n : ℕ) (xs : List ℕ) (p : ℕ) → p ≤ length xs → ((k : ℕ) → k < p → get_or xs k 0 < n) → ((k : ℕ) → p ≤ k → k < length xs → n < get_or xs k 0) → insert xs p n ≡ with_number n xs
with_number_inserted = inserted

-- what a binary search asks
pub no_descent : (xs : List ℕ) → IsStrictlyIncreasing xs → (i j : ℕ) → i ≤ j → j < length xs → get_or xs i 0 ≤ get_or xs j 0
no_descent xs h i j l k =
    elim (cases_lt i j) [
      | inl b ↦ let m = AllPairs-from_increasing xs h i j 0 b k in omega arith
      | inr b ↦ let e : i ≡ j = omega arith in rw e (omega arith)
    ]
