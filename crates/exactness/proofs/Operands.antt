-- What goes round a circle, and the prefixes of intersections and chains.
use Rattle.std.proofs.Common.{◌≡◌, ℕ, zero, suc, ◌+◌, ◌-◌, ◌<◌, ◌≤◌, inl, inr, List, length, slice_get, slice_index, Some, refl, sym, subst, arith, ne_eqb, eq-eqb, add-zero}
use Rattle.std.proofs.lemmas.Option.{slice_get-get_or, slice_get_within, get_or_from_slice_get}
use Rattle.axioms.specs.Expression.{ClassExpression}
use Rattle.interpretation_spec.specs.Interpretation.{Interpretation, IsIn}
use Rattle.normal_forms.specs.Forms.{IsNextInCircle, Whole, Property2, Property, first_of, first_steps}

-- what goes from each to the next goes from each to each
module _ (cs : List ℕ) (P : ℕ → Type 0) (step : (c d : ℕ) → IsNextInCircle cs c d → P c → P d) where
  up : (k m : ℕ) → m + k < length cs → P (slice_index cs m) → P (slice_index cs (m + k))
  up zero m l p = rw (add-zero m) p
  up (suc k) m l p =
      let l' : m + k < length cs = omega arith in
      let e : m + k + 1 ≡ m + suc k = omega arith in
      step (slice_index cs (m + k)) (slice_index cs (m + suc k))
      (m + k, slice_get-get_or cs (m + k) 0 l', inl (rw e (slice_get-get_or cs (m + suc k) 0 l)))
      (up k m l' p)

  pub around : (m n c d : ℕ) → slice_get cs m ≡ Some c → slice_get cs n ≡ Some d → P c → P d
  around m n c d h k p =
      let Q : ℕ → Type 0 = λ j. P (slice_index cs j) in
      let last = length cs - 1 in
      let l : m < length cs = slice_get_within cs m c h in
      let l' : n < length cs = slice_get_within cs n d k in
      let first : Q m = subst P (sym (get_or_from_slice_get cs m c 0 h)) p in
      let at_last : Q last = let e : m + (last - m) ≡ last = omega arith in subst Q e (up (last - m) m (omega arith) first) in
      let at_start : Q 0 = step (slice_index cs last) (slice_index cs 0)
      (last, slice_get-get_or cs last 0 (omega arith), inr (omega arith, slice_get-get_or cs 0 0 (omega arith))) at_last in
      let at_end : Q n = let e : 0 + n ≡ n = omega arith in subst Q e (up n 0 (omega arith) at_start) in
      subst P (get_or_from_slice_get cs n d 0 k) at_end

-- ---- intersections

-- an expression that holds the element is as good as one that is equal to it
pub IsIn-along : (i : Interpretation) (m : ℕ) (c d : ClassExpression) → c ≡ d → IsIn i d m → IsIn i c m
IsIn-along i m c d e h = subst (λ t. IsIn i t m) (sym e) h

-- ---- prefixes

pub first_of-one : (ds : List ℕ) (e : ℕ) → 2 ≤ length ds → first_of ds e 1 ≡ Whole (slice_index ds 0)
first_of-one ds e l = rw (ne_eqb 1 (length ds) (λ h. omega arith)) refl

pub first_of-all : (ds : List ℕ) (e n : ℕ) → n ≡ length ds → first_of ds e n ≡ Whole e
first_of-all ds e n h = rw (eq-eqb n (length ds) h) refl

pub first_steps-one : (rs : List ℕ) (s : Property2) → 2 ≤ length rs → first_steps rs s 1 ≡ Property (slice_index rs 0)
first_steps-one rs s l = rw (ne_eqb 1 (length rs) (λ h. omega arith)) refl

pub first_steps-all : (rs : List ℕ) (s : Property2) (n : ℕ) → n ≡ length rs → first_steps rs s n ≡ s
first_steps-all rs s n h = rw (eq-eqb n (length rs) h) refl
