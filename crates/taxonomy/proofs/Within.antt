-- A list without repetition within another: it is not longer, and where it is as long it has all numbers of the other.
use Rattle.std.proofs.Common.{◌≡◌, ℕ, suc, ◌≤◌, List, [], ◌∷◌, length, Bool, true, false, cond, eqb, ◌||◌, ◌⊎◌, inl, inr, refl, sym, ap, ◌∙◌, arith}
use Rattle.std.proofs.lemmas.Bool.{both_ways, cases_Bool, eq-eqb, eqb-true, false≢true, or_cases, or_left, or_right}
use Rattle.taxonomy.specs.Superclasses.{is_among, AreOnce}

-- the list without the first x
abbrev without : ℕ → List ℕ → List ℕ
without x [] = []
without x (y ∷ ys) = cond (eqb y x) ys (y ∷ without x ys)

length-without : (x : ℕ) (ys : List ℕ) → is_among ys x ≡ true → length ys ≡ suc (length (without x ys))
length-without x [] h = absurd (false≢true h)
length-without x (y ∷ ys) h = go (eqb y x) h (length-without x ys)
  where
    go : (b : Bool) → (b || is_among ys x) ≡ true → (is_among ys x ≡ true → length ys ≡ suc (length (without x ys))) → suc (length ys) ≡ suc (length (cond b ys (y ∷ without x ys)))
    go true h next = refl
    go false h next = ap suc (next h)

among-without : (x z : ℕ) (ys : List ℕ) → (x ≡ z → ⊥) → is_among ys z ≡ true → is_among (without x ys) z ≡ true
among-without x z [] ne h = h
among-without x z (y ∷ ys) ne h = go (eqb y x) refl (or_cases (eqb y z) (is_among ys z) h) (among-without x z ys ne)
  where
    go : (b : Bool) → eqb y x ≡ b → (eqb y z ≡ true) ⊎ (is_among ys z ≡ true) → (is_among ys z ≡ true → is_among (without x ys) z ≡ true) → is_among (cond b ys (y ∷ without x ys)) z ≡ true
    go true e h next = elim h [ inl t ↦ absurd (ne (sym (eqb-true y x e) ∙ eqb-true y z t)) | inr t ↦ t ]
    go false e h next = elim h [ inl t ↦ or_left (eqb y z) (is_among (without x ys) z) t | inr t ↦ or_right (eqb y z) (is_among (without x ys) z) (next t) ]

pub length_within : (xs ys : List ℕ) → AreOnce xs → ((z : ℕ) → is_among xs z ≡ true → is_among ys z ≡ true) → length xs ≤ length ys
length_within [] ys o h = omega arith
length_within (x ∷ xs) ys o h =
    let here : is_among ys x ≡ true = h x (or_left (eqb x x) (is_among xs x) (eq-eqb x x refl)) in
    let rest : length xs ≤ length (without x ys) = length_within xs (without x ys) o.1
    (λ z m. among-without x z ys (λ e. both_ways (is_among xs x) o.0 (ap (is_among xs) e ∙ m)) (h z (or_right (eqb x z) (is_among xs z) m))) in
    omega (arith, rest, length-without x ys here)

pub all_within : (xs ys : List ℕ) → AreOnce xs → ((z : ℕ) → is_among xs z ≡ true → is_among ys z ≡ true) → length ys ≤ length xs → (z : ℕ) → is_among ys z ≡ true → is_among xs z ≡ true
all_within xs ys o h long z m =
    elim (cases_Bool (is_among xs z)) [
      | inl t ↦ t
      | inr f ↦
          let longer : length (z ∷ xs) ≤ length ys = length_within (z ∷ xs) ys (f, o)
          (λ w k. elim (or_cases (eqb z w) (is_among xs w) k) [ inl e ↦ ap (is_among ys) (sym (eqb-true z w e)) ∙ m | inr e ↦ h w e ]) in
          absurd (omega (arith, longer))
    ]
