-- Insertion sort gives the one list in order that has the same numbers.
use Rattle.std.proofs.Common.{◌≡◌, ℕ, suc, ◌+◌, ◌<◌, Bool, true, false, cond, eqb, List, [], ◌∷◌, ◌++◌, length, get_or, refl, sym, ap, ◌∙◌, subst, arith, add-one}
use native.Mathlib.Numerals.{unary_clauses}
use Rattle.std.specs.declared.cmp.Ordering.{Ordering}
use Rattle.std.specs.Ordering.{is_lt}
use Rattle.std.specs.Cmp.{IsStrictWeakOrder}
use Rattle.std.specs.List.Sorted.{IsPermutation, IsSortedBy}
use Rattle.std.proofs.lemmas.List.Sorted.{sum_by-IsPermutation, sorted_far}
use Rattle.std.proofs.lemmas.List.Recursion.{is_sum_by}
use Rattle.std.proofs.lemmas.Bool.{eqb-true, eq-eqb}
use Rattle.std.specs.List.{filter, list_any}
use Rattle.taxonomy.specs.Texts.{firsts, inserted, is_same, sorted}

-- no number of the list comes before x
abbrev Above : (ℕ → ℕ → Ordering) → ℕ → List ℕ → Type 0
Above order x [] = Unit {0}
Above order x (y ∷ ys) = (is_lt (order y x) ≡ false) × Above order x ys

-- no number comes before an earlier one
abbrev pub Ascends : (ℕ → ℕ → Ordering) → List ℕ → Type 0
Ascends order [] = Unit {0}
Ascends order (x ∷ xs) = Above order x xs × Ascends order xs

-- how often a number stands in the list
abbrev pub occ : ℕ → List ℕ → ℕ
occ z [] = 0
occ z (x ∷ xs) = cond (eqb x z) 1 0 + occ z xs

Above-filter : (order : ℕ → ℕ → Ordering) (p : ℕ → Bool) (x : ℕ) (ys : List ℕ) → Above order x ys → Above order x (filter p ys)
Above-filter order p x [] a = tt
Above-filter order p x (y ∷ ys) a =
    elim (p y) as (λ b. Above order x (cond b (y ∷ filter p ys) (filter p ys)))
    [ true ↦ (a.0, Above-filter order p x ys a.1) | false ↦ Above-filter order p x ys a.1 ]

pub Ascends-filter : (order : ℕ → ℕ → Ordering) (p : ℕ → Bool) (ys : List ℕ) → Ascends order ys → Ascends order (filter p ys)
Ascends-filter order p [] a = tt
Ascends-filter order p (y ∷ ys) a =
    elim (p y) as (λ b. Ascends order (cond b (y ∷ filter p ys) (filter p ys)))
    [ true ↦ (Above-filter order p y ys a.0, Ascends-filter order p ys a.1) | false ↦ Ascends-filter order p ys a.1 ]

Above-firsts : (order : ℕ → ℕ → Ordering) (r : ℕ → ℕ → Bool) (x : ℕ) (before ys : List ℕ) → Above order x ys → Above order x (firsts r before ys)
Above-firsts order r x before [] a = tt
Above-firsts order r x before (y ∷ ys) a =
    elim (list_any (is_same r y) before) as (λ b. Above order x (cond b (firsts r before ys) (y ∷ firsts r (before ++ y ∷ []) ys)))
    [ true ↦ Above-firsts order r x before ys a.1 | false ↦ (a.0, Above-firsts order r x (before ++ y ∷ []) ys a.1) ]

pub Ascends-firsts : (order : ℕ → ℕ → Ordering) (r : ℕ → ℕ → Bool) (before ys : List ℕ) → Ascends order ys → Ascends order (firsts r before ys)
Ascends-firsts order r before [] a = tt
Ascends-firsts order r before (y ∷ ys) a =
    elim (list_any (is_same r y) before) as (λ b. Ascends order (cond b (firsts r before ys) (y ∷ firsts r (before ++ y ∷ []) ys)))
    [ true ↦ Ascends-firsts order r before ys a.1 | false ↦ (Above-firsts order r y (before ++ y ∷ []) ys a.0, Ascends-firsts order r (before ++ y ∷ []) ys a.1) ]

pub occ-permutation : (z : ℕ) (xs ys : List ℕ) → IsPermutation xs ys → occ z ys ≡ occ z xs
occ-permutation z xs ys h =
    is_sum_by (occ z) (λ x. cond (eqb x z) 1 0) refl (λ _ _. refl) ys
    ∙ sum_by-IsPermutation (λ x. cond (eqb x z) 1 0) xs ys h
    ∙ sym (is_sum_by (occ z) (λ x. cond (eqb x z) 1 0) refl (λ _ _. refl) xs)

module _ (order : ℕ → ℕ → Ordering) (ranks : IsStrictWeakOrder (λ x y. is_lt (order x y))) where
  Above-chain : (x y : ℕ) (zs : List ℕ) → is_lt (order y x) ≡ false → Above order y zs → Above order x zs
  Above-chain x y [] e a = tt
  Above-chain x y (z ∷ zs) e a = (ranks.chain z y x a.0 e, Above-chain x y zs e a.1)

  Above-inserted : (x n : ℕ) (ms : List ℕ) → is_lt (order n x) ≡ false → Above order x ms → Above order x (inserted order n ms)
  Above-inserted x n [] e a = (e, tt)
  Above-inserted x n (m ∷ ms) e a =
      elim (is_lt (order m n)) as (λ b. Above order x (cond b (m ∷ inserted order n ms) (n ∷ m ∷ ms)))
      [ true ↦ (a.0, Above-inserted x n ms e a.1) | false ↦ (e, a) ]

  Ascends-inserted : (n : ℕ) (ms : List ℕ) → Ascends order ms → Ascends order (inserted order n ms)
  Ascends-inserted n [] a = (tt, tt)
  Ascends-inserted n (m ∷ ms) a = inserted_by n m ms (is_lt (order m n)) refl a (Ascends-inserted n ms a.1)
    where
      inserted_by : (n m : ℕ) (ms : List ℕ) (b : Bool) → is_lt (order m n) ≡ b → Ascends order (m ∷ ms) → Ascends order (inserted order n ms) → Ascends order (cond b (m ∷ inserted order n ms) (n ∷ m ∷ ms))
      inserted_by n m ms true e a g = (Above-inserted m n ms (ranks.one_way m n e) a.0, g)
      inserted_by n m ms false e a g = ((e, Above-chain n m ms e a.0), a)

  pub Ascends-sorted : (ns : List ℕ) → Ascends order (sorted order ns)
  Ascends-sorted [] = tt
  Ascends-sorted (n ∷ ns) = Ascends-inserted n (sorted order ns) (Ascends-sorted ns)

  occ-inserted : (z n : ℕ) (ms : List ℕ) → occ z (inserted order n ms) ≡ occ z (n ∷ ms)
  occ-inserted z n [] = refl
  occ-inserted z n (m ∷ ms) =
      elim (is_lt (order m n)) as (λ b. occ z (cond b (m ∷ inserted order n ms) (n ∷ m ∷ ms)) ≡ occ z (n ∷ m ∷ ms))
      [ true ↦ omega (arith, occ-inserted z n ms) | false ↦ refl ]

  pub occ-sorted : (z : ℕ) (ns : List ℕ) → occ z (sorted order ns) ≡ occ z ns
  occ-sorted z [] = refl
  occ-sorted z (n ∷ ns) = occ-inserted z n (sorted order ns) ∙ ap (λ k. cond (eqb n z) 1 0 + k) (occ-sorted z ns)

  Above-occ : (x y : ℕ) (zs : List ℕ) → Above order x zs → 0 < occ y zs → is_lt (order y x) ≡ false
  Above-occ x y [] a h = absurd (omega arith)
  Above-occ x y (z ∷ zs) a h = found (eqb z y) refl a h (Above-occ x y zs a.1)
    where
      found : (b : Bool) → eqb z y ≡ b → Above order x (z ∷ zs) → 0 < cond b 1 0 + occ y zs → (0 < occ y zs → is_lt (order y x) ≡ false) → is_lt (order y x) ≡ false
      found true e a h next = subst (λ w. is_lt (order w x) ≡ false) (eqb-true z y e) a.0
      found false e a h next = next (omega arith)

  module _ (tight : (x y : ℕ) → is_lt (order x y) ≡ false → is_lt (order y x) ≡ false → x ≡ y) where
    same_first : (x y : ℕ) (xs ys : List ℕ) → Above order x xs → Above order y ys → ((z : ℕ) → occ z (x ∷ xs) ≡ occ z (y ∷ ys)) → x ≡ y
    same_first x y xs ys a b h = by_test (eqb x y) (eqb y x) refl refl
      where
        by_test : (s t : Bool) → eqb x y ≡ s → eqb y x ≡ t → x ≡ y
        by_test true t e f = eqb-true x y e
        by_test false true e f = sym (eqb-true y x f)
        by_test false false e f =
            let xx = eq-eqb x x refl in
            let yy = eq-eqb y y refl in
            let at_x : 1 + occ x xs ≡ 0 + occ x ys = ap (λ v. cond v 1 0 + occ x xs) (sym xx) ∙ h x ∙ ap (λ v. cond v 1 0 + occ x ys) f in
            let at_y : 0 + occ y xs ≡ 1 + occ y ys = ap (λ v. cond v 1 0 + occ y xs) (sym e) ∙ h y ∙ ap (λ v. cond v 1 0 + occ y ys) yy in
            tight x y (Above-occ y x ys b (omega arith)) (Above-occ x y xs a (omega arith))

    pub only_one : (xs ys : List ℕ) → Ascends order xs → Ascends order ys → ((z : ℕ) → occ z xs ≡ occ z ys) → xs ≡ ys
    only_one [] [] a b h = refl
    only_one [] (y ∷ ys) a b h =
        let yy = ap (λ v. cond v 1 0 + occ y ys) (eq-eqb y y refl) in absurd (omega (arith, h y))
    only_one (x ∷ xs) [] a b h =
        let xx = ap (λ v. cond v 1 0 + occ x xs) (eq-eqb x x refl) in absurd (omega (arith, h x))
    only_one (x ∷ xs) (y ∷ ys) a b h =
        let e = same_first x y xs ys a.0 b.0 h in
        let tails : xs ≡ ys = only_one xs ys a.1 b.1 (λ z. let k : cond {A = ℕ} (eqb x z) 1 0 ≡ cond (eqb y z) 1 0 = ap (λ (w : ℕ). cond {A = ℕ} (eqb w z) 1 0) e in omega (arith, h z)) in
        ap (λ w. w ∷ xs) e ∙ ap (λ w. y ∷ w) tails

    pub is_sorted : (ns xs : List ℕ) → IsPermutation ns xs → Ascends order xs → xs ≡ sorted order ns
    is_sorted ns xs p a =
        only_one xs (sorted order ns) a (Ascends-sorted ns) (λ z. occ-permutation z ns xs p ∙ sym (occ-sorted z ns))

  Above-each : (x : ℕ) (ys : List ℕ) → ((k d : ℕ) → k < length ys → is_lt (order (get_or ys k d) x) ≡ false) → Above order x ys
  Above-each x [] h = tt
  Above-each x (y ∷ ys) h = (h 0 0 (omega arith), Above-each x ys (λ k d l. h (suc k) d (omega arith)))

  pub Ascends-from_sort : (xs : List ℕ) → IsSortedBy (λ x y. is_lt (order x y)) xs → Ascends order xs
  Ascends-from_sort [] h = tt
  Ascends-from_sort (x ∷ xs) h = (
    Above-each x xs (λ k d l. sorted_far _ ranks (x ∷ xs) h 0 (suc k) d (omega arith) (omega arith)),
    Ascends-from_sort xs (λ k d l m. rw add-one (simp unary_clauses at (h (suc k) d (omega arith) (omega arith)))),
  )
