-- Lists that are gone through.
use Rattle.std.proofs.Common.{◌≡◌, ◌↔◌, ◌⊎◌, ℕ, ◌+◌, ◌<◌, inl, inr, List, [], ◌∷◌, ◌++◌, Bool, true, length, get_or, take, All, sym, ◌∙◌, subst, arith}
use Rattle.std.specs.List.{list_any}
use Rattle.std.specs.List.Sorted.{IsStrictlyIncreasing}
use Rattle.std.proofs.lemmas.Bool.{cases_lt}
use Rattle.std.proofs.lemmas.List.{get_or_default, get_or_append_left, get_or_push, get_or-take, length-take-le, length_push}
use Rattle.std.proofs.lemmas.List.Kept.{AllPairs-from_increasing}
use Rattle.std.proofs.lemmas.List.Elements.{All-map, Contains-get_or, Contains-append_cases, Contains-append_left, Contains-append_right}
use Rattle.std.proofs.lemmas.List.Folds.{Any-from_list_any, list_any-from_Any}
use Rattle.lemmas.proofs.Mapped.{All-from_map}
use Rattle.axioms.specs.View.{expr_numbers}
use Rattle.axioms.specs.declared.ids.ExprId.{ExprId}
use Rattle.listed_model.specs.Members.{holds}
use Rattle.listed_model.proofs.Members.{holds_from_Contains, Contains_from_holds}

-- what holds at each place of a list of expressions holds of each of their numbers
pub each_place : (P : ℕ → Type 0) (xs : List ExprId) → ((k : ℕ) → k < length xs → P (get_or xs k record { 0 = 0 }).0) ↔ All P (expr_numbers xs)
each_place P xs = (
  λ h. All-map P (λ (e : ExprId). e.0) xs (λ k d b. subst (λ (e : ExprId). P e.0) (get_or_default xs k record { 0 = 0 } d b) (h k b)),
  λ h k b. All-from_map P (λ (e : ExprId). e.0) xs h k record { 0 = 0 } b,
)

-- one of the numbers passes
pub one_passes : (test : ℕ → Bool) (xs : List ℕ) (x : ℕ) → holds xs x ≡ true → test x ≡ true → list_any test xs ≡ true
one_passes test xs x h t = let (k, l, e) = Contains_from_holds xs x h in list_any-from_Any test xs (k, x, l, e, t)

pub which_passes : (test : ℕ → Bool) (xs : List ℕ) → list_any test xs ≡ true → (x : ℕ) × (holds xs x ≡ true) × (test x ≡ true)
which_passes test xs h = let (k, x, l, e, t) = Any-from_list_any test xs h in (x, holds_from_Contains xs x (k, l, e), t)

-- a greater number behind an ascending list
pub rises_push : (xs : List ℕ) (y : ℕ) → IsStrictlyIncreasing xs → ((x : ℕ) → holds xs x ≡ true → x < y) → IsStrictlyIncreasing (xs ++ y ∷ [])
rises_push xs y up above k b =
    let long = length_push xs y in
    let here : get_or (xs ++ y ∷ []) k 0 ≡ get_or xs k 0 = get_or_append_left xs (y ∷ []) 0 k (omega arith) in
    elim (cases_lt (k + 1) (length xs)) [
      | inl l ↦ (let next = get_or_append_left xs (y ∷ []) 0 (k + 1) l in let less = up k l in omega arith)
      | inr l ↦
          (let last : get_or (xs ++ y ∷ []) (k + 1) 0 ≡ y = get_or_push xs y 0 (k + 1) (omega arith) in
          let less = above (get_or xs k 0) (holds_from_Contains xs (get_or xs k 0) (Contains-get_or xs k 0 (omega arith))) in
          omega arith)
    ]

-- what stands before a place of an ascending list is below what stands there
pub above_taken : (xs : List ℕ) (n z : ℕ) → IsStrictlyIncreasing xs → n < length xs → holds (take n xs) z ≡ true → z < get_or xs n 0
above_taken xs n z up l h =
    let (k, b, e) = Contains_from_holds (take n xs) z h in
    let many = length-take-le n xs (omega arith) in
    let here : get_or xs k z ≡ z = sym (get_or-take n xs k z (omega arith)) ∙ e in
    let same = get_or_default xs k z 0 (omega arith) in
    let less = AllPairs-from_increasing xs up k n 0 (omega arith) l in
    omega arith

pub holds_append : (xs ys : List ℕ) (x : ℕ) → (holds (xs ++ ys) x ≡ true) ↔ ((holds xs x ≡ true) ⊎ (holds ys x ≡ true))
holds_append xs ys x = (
  λ h. elim (Contains-append_cases xs ys x (Contains_from_holds (xs ++ ys) x h)) [
    | inl c ↦ inl (holds_from_Contains xs x c)
    | inr c ↦ inr (holds_from_Contains ys x c)
  ],
  λ h. elim h [
    | inl m ↦ holds_from_Contains (xs ++ ys) x (Contains-append_left xs ys x (Contains_from_holds xs x m))
    | inr m ↦ holds_from_Contains (xs ++ ys) x (Contains-append_right xs ys x (Contains_from_holds ys x m))
  ],
)
