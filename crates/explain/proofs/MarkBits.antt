-- Marks on facts.
use Rattle.std.proofs.Common.{◌≡◌, ◌≢◌, ◌↔◌, ◌⊎◌, inl, inr, ℕ, suc, ◌-◌, ◌<◌, List, Bool, true, false, length, replicate, Some, sym, ap, ◌∙◌, arith}
use Rattle.std.specs.Prelude.{slice_set}
use Rattle.std.proofs.lemmas.Bool.{cases_eq, cases_lt, false≢true}
use Rattle.std.proofs.lemmas.List.{get_or_past, get_or-set_same, get_or-set_other, length-replicate, length-set}
use Rattle.std.proofs.lemmas.Option.{get_or_from_slice_get, slice_get-get_or}
use Rattle.number_sets.specs.Members.{has}
use Rattle.number_sets.proofs.Members.{has_none}
use Rattle.explain.specs.Marks.{IsMarked}

-- ---- a mark

pub not_marked : (marks : List Bool) (n : ℕ) → has marks n ≡ false → IsMarked marks n → ⊥
not_marked marks n none marked = false≢true (sym none ∙ get_or_from_slice_get marks n true false marked)

pub is_marked : (marks : List Bool) (n : ℕ) → has marks n ≡ true → IsMarked marks n
is_marked marks n some = elim (cases_lt n (length marks)) [
  | inl l ↦ slice_get-get_or marks n false l ∙ ap Some some
  | inr l ↦ absurd (false≢true (sym (get_or_past marks n false l) ∙ some))
]

has_mark : (marks : List Bool) (n : ℕ) → IsMarked marks n → has marks n ≡ true
has_mark marks n marked = get_or_from_slice_get marks n true false marked

-- ---- a mark more

pub one_more_mark : (marks new : List Bool) (k : ℕ) → k < length marks → new ≡ slice_set marks k true → (n : ℕ) → IsMarked new n ↔ (IsMarked marks n ⊎ (n ≡ k))
one_more_mark marks new k there is n = (
  λ h. elim (cases_eq n k) [ inl e ↦ inr e | inr d ↦ inl (is_marked marks n (sym (other d) ∙ has_mark new n h)) ],
  λ h. elim (cases_eq n k) [
    | inl e ↦ is_marked new n (ap (has new) e ∙ this)
    | inr d ↦ elim h [ inl m ↦ is_marked new n (other d ∙ has_mark marks n m) | inr e ↦ absurd (d e) ]
  ],
)
  where
    this : has new k ≡ true
    this = ap (λ (ms : List Bool). has ms k) is ∙ get_or-set_same marks k true false there

    other : n ≢ k → has new n ≡ has marks n
    other d = ap (λ (ms : List Bool). has ms n) is ∙ get_or-set_other marks k n true false d

-- a mark on the goal alone
pub goal_marked : (new : List Bool) (goal : ℕ) → 0 < goal → new ≡ slice_set (replicate goal false) (goal - 1) true → (length new ≡ goal) × ((n : ℕ) → IsMarked new n ↔ (suc n ≡ goal))
goal_marked new goal some is = (
  ap length is ∙ length-set none (goal - 1) true ∙ length-replicate goal false,
  λ n. (
    λ h. elim ((one_more_mark none new (goal - 1) there is n).0 h) [ inl m ↦ absurd (blank n m) | inr e ↦ omega (arith, e, some) ],
    λ e. (one_more_mark none new (goal - 1) there is n).1 (inr (omega (arith, e))),
  ),
)
  where
    none : List Bool
    none = replicate goal false

    there : goal - 1 < length none
    there = omega (arith, some, length-replicate goal false)

    blank : (n : ℕ) → IsMarked none n → ⊥
    blank n m = not_marked none n (has_none goal n) m
