-- Ascending numbers: how many fit below a bound, which is missing, and the places of those that are there.
use Rattle.std.proofs.Common.{◌≡◌, ℕ, zero, suc, ◌+◌, ◌<◌, ◌≤◌, ◌⊎◌, inl, inr, Bool, true, false, ◌==◌, List, [], ◌∷◌, length, get_or, Contains, refl, sym, ap, ◌∙◌, subst, arith}
use Rattle.std.proofs.lemmas.Bool.{cases_order, cases_eq, eq-eqb, eqb-true}
use Rattle.std.proofs.lemmas.List.Elements.{Contains-get_or}
use Rattle.lemmas.proofs.Members.{Contains-none, Contains-first, Contains-later, Contains-cons_cases}
use Rattle.certificate.specs.Writability.{Ascends}
use Rattle.narrowing.specs.Narrowed.{place_among}

-- from k on, each above the one before
abbrev pub Climbs : ℕ → List ℕ → Type 0
Climbs k [] = Unit {0}
Climbs k (x ∷ xs) = (k ≤ x) × Climbs (suc x) xs

climbs_after : (x : ℕ) (xs : List ℕ) → Ascends (x ∷ xs) → Climbs (suc x) xs
climbs_after x [] h = tt
climbs_after x (y ∷ ys) h = (omega (arith, h.0), climbs_after y ys h.1)

pub climbs : (xs : List ℕ) → Ascends xs → Climbs 0 xs
climbs [] h = tt
climbs (x ∷ xs) h = (omega arith, climbs_after x xs h)

-- ---- how many there are

-- none is below the first bound
pub climbs_least : (k : ℕ) (xs : List ℕ) (x : ℕ) → Climbs k xs → Contains xs x → k ≤ x
climbs_least k [] x h c = absurd (Contains-none x c)
climbs_least k (y ∷ ys) x h c =
    elim (Contains-cons_cases y x ys c) [
      | inl e ↦ omega (arith, h.0)
      | inr d ↦ (let g = climbs_least (suc y) ys x h.1 d in omega (arith, h.0))
    ]

-- no more stand below a bound than there are numbers from k on
pub fitting : (n k : ℕ) (xs : List ℕ) → Climbs k xs → ((x : ℕ) → Contains xs x → x < n) → k ≤ n → length xs + k ≤ n
fitting n k [] h below l = omega arith
fitting n k (y ∷ ys) h below l =
    let first : y < n = below y (Contains-first y ys) in
    let g = fitting n (suc y) ys h.1 (λ x c. below x (Contains-later y x ys c)) (omega arith) in
    omega (arith, h.0)

-- .. and one less where one of them is missing
pub room : (n k : ℕ) (xs : List ℕ) (x : ℕ) → Climbs k xs → ((y : ℕ) → Contains xs y → y < n) → k ≤ x → x < n → (Contains xs x → ⊥) → length xs + k < n
room n k [] x h below l m absent = omega arith
room n k (y ∷ ys) x h below l m absent =
    let rest : (z : ℕ) → Contains ys z → z < n = λ z c. below z (Contains-later y z ys c) in
    let first : y < n = below y (Contains-first y ys) in
    elim (cases_order x y) [
      | inl e ↦ absurd (absent (subst (λ z. Contains (y ∷ ys) z) (sym e) (Contains-first y ys)))
      | inr (inl s) ↦ (let g = fitting n (suc y) ys h.1 rest (omega arith) in omega arith)
      | inr (inr s) ↦ (let g = room n (suc y) ys x h.1 rest (omega arith) m (λ c. absent (Contains-later y x ys c)) in omega (arith, h.0))
    ]

-- a number that is missing, where there are too few
pub record IsMissing (k n : ℕ) (xs : List ℕ) (x : ℕ) : Type 0 where
  pub from : k ≤ x
  pub below_bound : x < n
  pub out : Contains xs x → ⊥

pub missing : (n k : ℕ) (xs : List ℕ) → Climbs k xs → length xs + k < n → (x : ℕ) × IsMissing k n xs x
missing n k [] h l = (k, record { from = omega arith; below_bound = omega arith; out = Contains-none k })
missing n k (y ∷ ys) h l =
    elim (cases_order k y) [
      | inl e ↦ (let (x, g) = missing n (suc y) ys h.1 (omega arith) in
          let apart : y ≡ x → ⊥ = λ e'. absurd (omega (arith, g.from)) in
          (x, record { from = omega (arith, g.from); below_bound = g.below_bound; out = λ c. elim (Contains-cons_cases y x ys c) [ inl e' ↦ apart e' | inr d ↦ g.out d ] }))
      | inr (inl s) ↦ (k, record { from = omega arith; below_bound = omega arith; out = λ c. (let g = climbs_least y (y ∷ ys) k (omega arith, h.1) c in absurd (omega arith)) })
      | inr (inr s) ↦ absurd (omega (arith, h.0))
    ]

-- ---- places

not_true : (b : Bool) → (b ≡ true → ⊥) → b ≡ false
not_true true h = absurd (h refl)
not_true false h = refl

same_place : (y x : ℕ) (ys : List ℕ) → y ≡ x → place_among (y ∷ ys) x ≡ 0
same_place y x ys e = rw (eq-eqb y x e) refl

other_place : (y x : ℕ) (ys : List ℕ) → (y ≡ x → ⊥) → place_among (y ∷ ys) x ≡ suc (place_among ys x)
other_place y x ys d = rw (not_true (y == x) (λ e. d (eqb-true y x e))) refl

-- a number that is not there has the place behind the last
pub place_out : (xs : List ℕ) (x : ℕ) → (Contains xs x → ⊥) → place_among xs x ≡ length xs
place_out [] x absent = refl
place_out (y ∷ ys) x absent =
    other_place y x ys (λ e. absent (subst (λ z. Contains (y ∷ ys) z) e (Contains-first y ys)))
    ∙ ap suc (place_out ys x (λ c. absent (Contains-later y x ys c)))

pub place_within : (xs : List ℕ) (x : ℕ) → Contains xs x → place_among xs x < length xs
place_within [] x c = absurd (Contains-none x c)
place_within (y ∷ ys) x c =
    elim (cases_eq y x) [
      | inl e ↦ (let p = same_place y x ys e in omega arith)
      | inr d ↦ (let p = other_place y x ys d in
          elim (Contains-cons_cases y x ys c) [ inl e ↦ absurd (d e) | inr k ↦ (let g = place_within ys x k in omega arith) ])
    ]

-- whether it is there
pub in_or_out : (xs : List ℕ) (x : ℕ) → Contains xs x ⊎ (Contains xs x → ⊥)
in_or_out [] x = inr (Contains-none x)
in_or_out (y ∷ ys) x =
    elim (cases_eq y x) [
      | inl e ↦ inl (subst (λ z. Contains (y ∷ ys) z) e (Contains-first y ys))
      | inr d ↦ elim (in_or_out ys x) [
        | inl c ↦ inl (Contains-later y x ys c)
        | inr absent ↦ inr (λ c. elim (Contains-cons_cases y x ys c) [ inl e ↦ d e | inr k ↦ absent k ])
      ]
    ]

pub in_of_place : (xs : List ℕ) (x : ℕ) → place_among xs x < length xs → Contains xs x
in_of_place xs x l = elim (in_or_out xs x) [ inl c ↦ c | inr absent ↦ (let e = place_out xs x absent in absurd (omega arith)) ]

-- what stands at the place of a number that is there
pub at_place : (xs : List ℕ) (x d : ℕ) → Contains xs x → get_or xs (place_among xs x) d ≡ x
at_place [] x d c = absurd (Contains-none x c)
at_place (y ∷ ys) x d c =
    elim (cases_eq y x) [
      | inl e ↦ ap (λ k. get_or (y ∷ ys) k d) (same_place y x ys e) ∙ e
      | inr n ↦ elim (Contains-cons_cases y x ys c) [
        | inl e ↦ absurd (n e)
        | inr k ↦ ap (λ k. get_or (y ∷ ys) k d) (other_place y x ys n) ∙ at_place ys x d k
      ]
    ]

-- so those that are there have places of their own
pub same_number : (xs : List ℕ) (x y : ℕ) → Contains xs x → place_among xs x ≡ place_among xs y → x ≡ y
same_number xs x y c e =
    let l = place_within xs x c in
    let d : Contains xs y = in_of_place xs y (omega arith) in
    sym (at_place xs x 0 c) ∙ ap (λ k. get_or xs k 0) e ∙ at_place xs y 0 d

-- the place of what stands at a place
pub place_at : (k : ℕ) (xs : List ℕ) (n d : ℕ) → Climbs k xs → n < length xs → place_among xs (get_or xs n d) ≡ n
place_at k [] n d h l = absurd (omega arith)
place_at k (y ∷ ys) zero d h l = same_place y y ys refl
place_at k (y ∷ ys) (suc n) d h l =
    let x = get_or ys n d in
    let above : suc y ≤ x = climbs_least (suc y) ys x h.1 (Contains-get_or ys n d (omega arith)) in
    other_place y x ys (λ e. absurd (omega arith)) ∙ ap suc (place_at (suc y) ys n d h.1 (omega arith))

-- places are in the order of the numbers
pub place_order : (k : ℕ) (xs : List ℕ) (x y : ℕ) → Climbs k xs → Contains xs x → Contains xs y → x < y → place_among xs x < place_among xs y
place_order k [] x y h c d l = absurd (Contains-none x c)
place_order k (z ∷ zs) x y h c d l =
    elim (Contains-cons_cases z x zs c) [
      | inl e ↦ (let p = same_place z x zs e in
          let q = other_place z y zs (λ e'. absurd (omega arith)) in
          omega arith)
      | inr c' ↦ (let above = climbs_least (suc z) zs x h.1 c' in
          let p = other_place z x zs (λ e. absurd (omega arith)) in
          let q = other_place z y zs (λ e. absurd (omega arith)) in
          elim (Contains-cons_cases z y zs d) [
            | inl e ↦ absurd (omega arith)
            | inr d' ↦ (let g = place_order (suc z) zs x y h.1 c' d' l in omega arith)
          ])
    ]
