-- The interval that a number lies in: intervals are in the order of numbers, one begins at each start, and each number is in one.
use Rattle.std.proofs.Common.{◌≡◌, ℕ, zero, suc, ◌<◌, ◌≤◌, ◌⊎◌, inl, inr, List, [], ◌∷◌, length, Contains, refl, ap, ◌∙◌, subst, arith}
use Rattle.std.proofs.lemmas.Bool.{cases_order, cases_lt, le-leb, lt-leb}
use Rattle.lemmas.proofs.Members.{Contains-none, Contains-first, Contains-later, Contains-cons_cases}
use Rattle.narrowing.specs.Cut.{interval_of}
use Rattle.narrowing.proofs.Climbing.{Climbs, climbs_least}

-- the numbers that f gives are in the order of those that it is given
abbrev pub IsMonotone : (ℕ → ℕ) → Type 0
IsMonotone f = (x y : ℕ) → x ≤ y → f x ≤ f y

-- .. and what is below the point comes below what is not, within the domain
abbrev pub RisesAt : (ℕ → ℕ) → ℕ → ℕ → Type 0
RisesAt f domain s = (x y : ℕ) → x < s → s ≤ y → y < domain → f x < f y

-- a number at which f rises, and after which it does, comes alone to its own
pub alone : (f : ℕ → ℕ) (domain x y : ℕ) → RisesAt f domain x → RisesAt f domain (suc x) → x < domain → y < domain → f x ≡ f y → x ≡ y
alone f domain x y here after lx ly e =
    elim (cases_order x y) [
      | inl same ↦ same
      | inr (inl l) ↦ (let g = after x y (omega arith) (omega arith) ly in absurd (omega arith))
      | inr (inr l) ↦ (let g = here y x l (omega arith) lx in absurd (omega arith))
    ]

-- ---- intervals

before_start : (start : ℕ) (starts : List ℕ) (x : ℕ) → x < start → interval_of (start ∷ starts) x ≡ 0
before_start start starts x l = rw (lt-leb start x l) refl

past_start : (start : ℕ) (starts : List ℕ) (x : ℕ) → start ≤ x → interval_of (start ∷ starts) x ≡ suc (interval_of starts x)
past_start start starts x l = rw (le-leb start x l) refl

pub intervals_monotone : (starts : List ℕ) → IsMonotone (interval_of starts)
intervals_monotone [] x y l = omega arith
intervals_monotone (start ∷ starts) x y l =
    elim (cases_lt x start) [
      | inl b ↦ (let p = before_start start starts x b in omega arith)
      | inr b ↦ (let p = past_start start starts x b in
          let q = past_start start starts y (omega arith) in
          let g = intervals_monotone starts x y l in
          omega arith)
    ]

pub intervals_rise : (k : ℕ) (starts : List ℕ) → Climbs k starts → (s : ℕ) → Contains starts s → (x y : ℕ) → x < s → s ≤ y → interval_of starts x < interval_of starts y
intervals_rise k [] h s c x y l m = absurd (Contains-none s c)
intervals_rise k (start ∷ starts) h s c x y l m =
    elim (Contains-cons_cases start s starts c) [
      | inl e ↦ (let p = before_start start starts x (omega arith) in
          let q = past_start start starts y (omega arith) in
          omega arith)
      | inr d ↦ (let above = climbs_least (suc start) starts s h.1 d in
          let q = past_start start starts y (omega arith) in
          elim (cases_lt x start) [
            | inl b ↦ (let p = before_start start starts x b in omega arith)
            | inr b ↦ (let p = past_start start starts x b in
                let g = intervals_rise (suc start) starts h.1 s d x y l m in
                omega arith)
          ])
    ]

pub intervals_within : (starts : List ℕ) (x : ℕ) → interval_of starts x ≤ length starts
intervals_within [] x = omega arith
intervals_within (start ∷ starts) x =
    elim (cases_lt x start) [
      | inl b ↦ (let p = before_start start starts x b in omega arith)
      | inr b ↦ (let p = past_start start starts x b in let g = intervals_within starts x in omega arith)
    ]

-- the first interval is that of a number before all starts
first_interval : (n : ℕ) (starts : List ℕ) → Climbs (suc n) starts → interval_of starts n ≡ 0
first_interval n [] h = refl
first_interval n (start ∷ starts) h = before_start start starts n (omega (arith, h.0))

-- each is that of the number, or of a start
pub intervals_met : (n : ℕ) (starts : List ℕ) → Climbs (suc n) starts → (k : ℕ) → k ≤ length starts → (x : ℕ) × ((n ≡ x) ⊎ Contains starts x) × (interval_of starts x ≡ k)
intervals_met n starts h zero l = (n, inl refl, first_interval n starts h)
intervals_met n [] h (suc k) l = absurd (omega arith)
intervals_met n (start ∷ starts) h (suc k) l =
    let (x, there, is) = intervals_met start starts h.1 k (omega arith) in
    elim there [
      | inl e ↦ (x, inr (subst (λ z. Contains (start ∷ starts) z) e (Contains-first start starts)), past_start start starts x (omega arith) ∙ ap suc is)
      | inr c ↦ (let above = climbs_least (suc start) starts x h.1 c in
          (x, inr (Contains-later start x starts c), past_start start starts x (omega arith) ∙ ap suc is))
    ]
