-- Some elements of a list, in its order.
use Rattle.std.proofs.Common.{◌≡◌, ℕ, zero, suc, ◌⊎◌, inl, inr, List, [], ◌∷◌, ◌++◌, Some, Contains, refl, sym, ap, ◌∙◌, arith}
use Rattle.std.proofs.lemmas.Option.{same_Some}
use Rattle.lemmas.proofs.Members.{Contains-from_slice_get, slice_get-from_Contains, Contains-later, Contains-cons_cases}
use Rattle.axioms.specs.WellFormedness.{AreDistinct}
use Rattle.indexes.specs.Parts.{ArePartOf, none, taken, left_out}

pub part_empty : (xs : List ℕ) → ArePartOf [] xs
part_empty [] = none
part_empty (x ∷ xs) = left_out (part_empty xs)

pub part_same : (xs : List ℕ) → ArePartOf xs xs
part_same [] = none
part_same (x ∷ xs) = taken (part_same xs)

-- one element more in both
pub part_push : {xs ys : List ℕ} (n : ℕ) → ArePartOf xs ys → ArePartOf (xs ++ n ∷ []) (ys ++ n ∷ [])
part_push n none = taken none
part_push n (taken p) = taken (part_push n p)
part_push n (left_out p) = left_out (part_push n p)

-- elements more in the whole
pub part_more : {xs ys : List ℕ} (zs : List ℕ) → ArePartOf xs ys → ArePartOf xs (ys ++ zs)
part_more zs none = part_empty zs
part_more zs (taken p) = taken (part_more zs p)
part_more zs (left_out p) = left_out (part_more zs p)

-- elements before both
pub part_behind : (zs : List ℕ) {xs ys : List ℕ} → ArePartOf xs ys → ArePartOf (zs ++ xs) (zs ++ ys)
part_behind [] p = p
part_behind (z ∷ zs) p = taken (part_behind zs p)

pub part_within : {xs ys zs : List ℕ} → ArePartOf xs ys → ArePartOf ys zs → ArePartOf xs zs
part_within p none = p
part_within (taken p) (taken q) = taken (part_within p q)
part_within (left_out p) (taken q) = left_out (part_within p q)
part_within p (left_out q) = left_out (part_within p q)

-- the last element of the whole is the last of the part, or is left out
pub part_cases : {xs : List ℕ} (ys : List ℕ) (n : ℕ) → ArePartOf xs (ys ++ n ∷ []) → ArePartOf xs ys ⊎ ((rest : List ℕ) × (xs ≡ rest ++ n ∷ []) × ArePartOf rest ys)
part_cases [] n (taken none) = inr ([], refl, none)
part_cases [] n (left_out none) = inl none
part_cases (y ∷ ys) n (taken p) = elim (part_cases ys n p) [ inl q ↦ inl (taken q) | inr w ↦ inr (y ∷ w.0, ap (λ zs. y ∷ zs) w.1, taken w.2) ]
part_cases (y ∷ ys) n (left_out p) = elim (part_cases ys n p) [ inl q ↦ inl (left_out q) | inr w ↦ inr (w.0, w.1, left_out w.2) ]

pub part_contains : {xs ys : List ℕ} → ArePartOf xs ys → (n : ℕ) → Contains xs n → Contains ys n
part_contains none n c = c
part_contains (taken {n = m} {part = part} {whole = whole} p) n c = elim (Contains-cons_cases m n part c) [ inl e ↦ (0, omega arith, e) | inr d ↦ Contains-later m n whole (part_contains p n d) ]
part_contains (left_out {n = m} {whole = whole} p) n c = Contains-later m n whole (part_contains p n c)

-- ---- no two places have the same

distinct_tail : (x : ℕ) (xs : List ℕ) → AreDistinct (x ∷ xs) → AreDistinct xs
distinct_tail x xs distinct i j y a b = omega (arith, distinct (suc i) (suc j) y a b)

distinct_head : (x : ℕ) (xs : List ℕ) → AreDistinct (x ∷ xs) → Contains xs x → ⊥
distinct_head x xs distinct c = let at = slice_get-from_Contains xs x c in absurd (omega (arith, distinct zero (suc at.0) x refl at.1))

distinct_cons : (x : ℕ) (xs : List ℕ) → AreDistinct xs → (Contains xs x → ⊥) → AreDistinct (x ∷ xs)
distinct_cons x xs distinct new zero zero y a b = refl
distinct_cons x xs distinct new zero (suc j) y a b = absurd (new (Contains-from_slice_get xs j x (b ∙ ap Some (sym (same_Some x y a)))))
distinct_cons x xs distinct new (suc i) zero y a b = absurd (new (Contains-from_slice_get xs i x (a ∙ ap Some (sym (same_Some x y b)))))
distinct_cons x xs distinct new (suc i) (suc j) y a b = ap suc (distinct i j y a b)

pub part_distinct : {xs ys : List ℕ} → ArePartOf xs ys → AreDistinct ys → AreDistinct xs
part_distinct none distinct = distinct
part_distinct (taken {n = n} {part = part} {whole = whole} p) distinct = distinct_cons n part (part_distinct p (distinct_tail n whole distinct)) (λ c. distinct_head n whole distinct (part_contains p n c))
part_distinct (left_out {n = n} {whole = whole} p) distinct = part_distinct p (distinct_tail n whole distinct)
