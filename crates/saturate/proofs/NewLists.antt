-- Which lists that are added are new.
use Rattle.std.proofs.Common.{◌≡◌, ◌↔◌, ℕ, ◌+◌, ◌<◌, ◌≤◌, ⊎_elim, List, [], ◌∷◌, ◌++◌, length, take, slice_get, Some, Contains, sym, ap, subst, ◌∙◌, arith}
use Rattle.std.proofs.lemmas.List.Elements.{Contains-append_left, Contains-push, Contains-push_cases}
use Rattle.std.proofs.Math.Seq.{take-append_seam}
use Rattle.std.proofs.lemmas.List.{take_all}
use Rattle.std.proofs.lemmas.Option.{slice_get-get_or}
use Rattle.lemmas.proofs.Places.{take_push}
use Rattle.number_sets.specs.Pieces.{list_at}
use Rattle.saturate.specs.Requests.{IsNew}

-- these are, of the first so many, those to which no earlier one is equal
abbrev pub AreNewBefore : {X : Type 0} → List X → List X → ℕ → List X → Type 0
AreNewBefore before now to new = (x : _) → Contains new x ↔ IsNew before (take to now) x

-- one that is new is put behind them
pub new_pushed : {X : Type 0} (before now new : List X) (n : ℕ) (x : X) → slice_get now n ≡ Some x → ¬ Contains before x → AreNewBefore before now n new → AreNewBefore before now (n + 1) (new ++ x ∷ [])
new_pushed {X} before now new n x at unlike are y = (
  λ there. subst (λ (xs : List X). IsNew before xs y) (sym (take_push now n x at))
      (⊎_elim
      (λ was. let h = (are y).0 was in (Contains-append_left (take n now) (x ∷ []) y h.0, h.1))
      (λ e. subst (λ (z : X). IsNew before (take n now ++ x ∷ []) z) e (Contains-push (take n now) x, unlike))
      (Contains-push_cases new x y there)),
  λ is_new. ⊎_elim
      (λ was. Contains-append_left new (x ∷ []) y ((are y).1 (was, is_new.1)))
      (λ e. subst (Contains (new ++ x ∷ [])) e (Contains-push new x))
      (Contains-push_cases (take n now) x y (subst (λ (xs : List X). Contains xs y) (take_push now n x at) is_new.0)),
)

-- one that is not is passed over
pub old_passed : {X : Type 0} (before now new : List X) (n : ℕ) (x : X) → slice_get now n ≡ Some x → Contains before x → AreNewBefore before now n new → AreNewBefore before now (n + 1) new
old_passed {X} before now new n x at there are y = (
  λ in_new. let h = (are y).0 in_new in (subst (λ (xs : List X). Contains xs y) (sym (take_push now n x at)) (Contains-append_left (take n now) (x ∷ []) y h.0), h.1),
  λ is_new. ⊎_elim
      (λ was. (are y).1 (was, is_new.1))
      (λ e. absurd (is_new.1 (subst (Contains before) e there)))
      (Contains-push_cases (take n now) x y (subst (λ (xs : List X). Contains xs y) (take_push now n x at) is_new.0)),
)

-- of those that were there none is new
pub none_new : {X : Type 0} (before more now : List X) (n : ℕ) → now ≡ before ++ more → n ≡ length before → AreNewBefore before now n []
none_new {X} before more now n is long y = (
  λ there. absurd (omega (arith, there.1)),
  λ is_new. absurd (is_new.1 (subst (λ (xs : List X). Contains xs y) (ap (λ (xs : List X). take n xs) is ∙ ap (λ (m : ℕ). take m (before ++ more)) long ∙ take-append_seam before more) is_new.0)),
)

-- after all of them
pub all_new : {X : Type 0} (before now new : List X) (n : ℕ) → length now ≤ n → AreNewBefore before now n new → (x : X) → Contains new x ↔ IsNew before now x
all_new {X} before now new n long are x = subst (λ (xs : List X). Contains new x ↔ IsNew before xs x) (take_all n now long) (are x)

-- the list of a number is at its place
pub at_place : {X : Type 0} (lists : List (List X)) (n : ℕ) (list : List X) → list ≡ list_at lists n → n < length lists → slice_get lists n ≡ Some list
at_place lists n list is low = slice_get-get_or lists n [] low ∙ ap Some (sym is)
