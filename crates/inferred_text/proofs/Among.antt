-- Numbers in lists: those that pass a test, and how many pass.
use Rattle.std.proofs.Common.{◌≡◌, ℕ, ◌<◌, Bool, true, false, eqb, ◌&&◌, List, ◌∷◌, length, inl, inr, refl, sym, ap₂, ◌∙◌}
use Rattle.std.specs.List.{filter}
use Rattle.std.proofs.lemmas.Bool.{and_from, and_parts, eq-eqb, eqb-true, lt-ltb, ltb-true, or_cases, or_left, or_right}
use Rattle.taxonomy.specs.Superclasses.{is_among}
use Rattle.taxonomy.specs.Texts.{numbers_below, some_below}
use Rattle.taxonomy.proofs.Arranged.{among_found, any_at}
use Rattle.taxonomy.proofs.Once.{among_below, among_filter, once_below, once_filter}
use Rattle.taxonomy.proofs.Within.{length_within}

-- what holds of each number that stands in the list
abbrev pub Each : (ℕ → Type 0) → List ℕ → Type 0
Each P xs = (k : ℕ) → is_among xs k ≡ true → P k

pub among_head : (x : ℕ) (xs : List ℕ) → is_among (x ∷ xs) x ≡ true
among_head x xs = or_left (eqb x x) (is_among xs x) (eq-eqb x x refl)

pub among_tail : (x k : ℕ) (xs : List ℕ) → is_among xs k ≡ true → is_among (x ∷ xs) k ≡ true
among_tail x k xs h = or_right (eqb x k) (is_among xs k) h

-- ---- numbers that pass

-- a number below n that passes
pub some_found : (n : ℕ) (p : ℕ → Bool) → some_below n p ≡ true → (k : ℕ) × (k < n) × (p k ≡ true)
some_found n p h =
    let w = among_found p (numbers_below n) h in
    (w.0, ltb-true w.0 n (sym (among_below n w.0) ∙ w.1), w.2)

pub some_at : (n : ℕ) (p : ℕ → Bool) (k : ℕ) → k < n → p k ≡ true → some_below n p ≡ true
some_at n p k l h = any_at p (numbers_below n) k (among_below n k ∙ lt-ltb k n l) h

-- a number that passes
pub filtered : (p : ℕ → Bool) (xs : List ℕ) (k : ℕ) → is_among xs k ≡ true → p k ≡ true → is_among (filter p xs) k ≡ true
filtered p xs k h e = among_filter p xs k ∙ and_from (is_among xs k) (p k) h e

pub filtered_from : (p : ℕ → Bool) (xs : List ℕ) (k : ℕ) → is_among (filter p xs) k ≡ true → (is_among xs k ≡ true) × (p k ≡ true)
filtered_from p xs k h = and_parts (is_among xs k) (p k) (sym (among_filter p xs k) ∙ h)

-- ---- how many

-- how many numbers below n pass
abbrev pub count : ℕ → (ℕ → Bool) → ℕ
count n p = length (filter p (numbers_below n))

-- where each that passes the one passes the other, and one more does, fewer pass
pub fewer : (n : ℕ) (p q : ℕ → Bool) (j : ℕ) → ((k : ℕ) → k < n → p k ≡ true → q k ≡ true) → j < n → p j ≡ false → q j ≡ true → count n p < count n q
fewer n p q j within l out in' =
    let ns = numbers_below n in
    let here : is_among ns j ≡ true = among_below n j ∙ lt-ltb j n l in
    let once = once_filter p ns (once_below n) in
    let apart : is_among (filter p ns) j ≡ false = among_filter p ns j ∙ ap₂ (λ a b. a && b) here out in
    length_within (j ∷ filter p ns) (filter q ns) (apart, once)
    (λ z h. elim (or_cases (eqb j z) (is_among (filter p ns) z) h) [
      | inl e ↦ let same : j ≡ z = eqb-true j z e in rw same at (filtered q ns j here in')
      | inr e ↦
          let w = filtered_from p ns z e in
          filtered q ns z w.0 (within z (ltb-true z n (sym (among_below n z) ∙ w.0)) w.1)
    ])
