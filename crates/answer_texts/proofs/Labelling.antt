-- What a graph has beside an element, one class or individual more, and told of.
use Rattle.std.proofs.Common.{◌≡◌, ℕ, zero, suc, ◌+◌, ◌-◌, ◌<◌, ◌≤◌, ◌==◌, inl, inr, Bool, true, false, cond, if◌then◌else◌, List, [], ◌∷◌, ◌++◌, length, get_or, set, take, refl, sym, ap, ◌∙◌, append_assoc, arith}
use Rattle.std.specs.List.{filter, flat_map, range_with_len}
use Rattle.std.proofs.lemmas.Bool.{cases_eq, cases_lt, eq-eqb, ne_eqb}
use Rattle.std.proofs.lemmas.List.{append-nil, get_or_past, get_or-set_other, get_or-set_same}
use Rattle.interpretation_spec.specs.Members.{has_elements}
use Rattle.interpretation_spec.specs.NumberedInterpretation.{IsNumberedInterpretation, NumberedInterpretation, members_of}
use Rattle.number_sets.specs.Members.{has}
use Rattle.number_sets.specs.Pieces.{list_at}
use Rattle.number_sets.specs.Transposition.{copies}
use Rattle.answer_texts.specs.Labels.{classes_at, individuals_at, numbers_of}
use Rattle.answer_texts.proofs.Classes.{filtered, has_none}
use Rattle.answer_texts.proofs.More.{enumerated_more, flat_more}

-- ---- what is told of the numbers of those that pass

told_case : (t : ℕ → List ℕ) (b : Bool) (k : ℕ) (rest other : List ℕ) → flat_map t rest ≡ other → flat_map t ((if b then k ∷ [] else []) ++ rest) ≡ (if b then t k else []) ++ other
told_case t true k rest other e = ap (λ (s : List ℕ). t k ++ s) e
told_case t false k rest other e = e

pub told_numbers : {X : Type 0} (t : ℕ → List ℕ) (p : X → Bool) (n : X → ℕ) (xs : List X) → flat_map t (numbers_of p n xs) ≡ flat_map (λ x. if p x then t (n x) else []) xs
told_numbers t p n [] = refl
told_numbers t p n (x ∷ xs) = told_case t (p x) (n x) (numbers_of p n xs) (flat_map (λ x. if p x then t (n x) else []) xs) (told_numbers t p n xs)

-- ---- copies for the members of a set

passed : (b : Bool) (c x a : ℕ) (ys : List ℕ) → (a == x) ≡ false → copies c x (cond b (a ∷ ys) ys) ≡ copies c x ys
passed true c x a ys other = ap (λ (same : Bool). (if same then c ∷ [] else []) ++ copies c x ys) other
passed false c x a ys other = refl

found : (b : Bool) (c x a : ℕ) (ys : List ℕ) → (a == x) ≡ true → copies c x ys ≡ [] → copies c x (cond b (a ∷ ys) ys) ≡ (if b then c ∷ [] else [])
found true c x a ys same none = ap (λ (is : Bool). (if is then c ∷ [] else []) ++ copies c x ys) same ∙ ap (λ (s : List ℕ). c ∷ s) none
found false c x a ys same none = none

none_before : (p : ℕ → Bool) (c x a n : ℕ) → x < a → copies c x (filter p (range_with_len a n)) ≡ []
none_before p c x a zero l = refl
none_before p c x a (suc n) l =
    passed (p a) c x a (filter p (range_with_len (a + 1) n)) (ne_eqb a x (λ same. absurd (omega (arith, same, l)))) ∙ none_before p c x (a + 1) n (omega (arith, l))

once_from : (p : ℕ → Bool) (c x a n : ℕ) → a ≤ x → x < a + n → copies c x (filter p (range_with_len a n)) ≡ (if p x then c ∷ [] else [])
once_from p c x a zero low high = absurd (omega (arith, low, high))
once_from p c x a (suc n) low high =
    let rest = filter p (range_with_len (a + 1) n) in
    elim (cases_eq a x) [
      | inl e ↦ found (p a) c x a rest (eq-eqb a x e) (none_before p c x (a + 1) n (omega (arith, e))) ∙ ap (λ (k : ℕ). if p k then c ∷ [] else []) e
      | inr ne ↦ passed (p a) c x a rest (ne_eqb a x ne) ∙ once_from p c x (a + 1) n (let far : a < x = omega (arith, low, ne) in omega (arith, far)) (omega (arith, high))
    ]

-- of the members below n each has one
pub once : (p : ℕ → Bool) (c x n : ℕ) → x < n → copies c x (filter p (range_with_len 0 n)) ≡ (if p x then c ∷ [] else [])
once p c x n l = once_from p c x 0 n (omega arith) (omega (arith, l))

-- ---- the classes of an element

module _ (i : NumberedInterpretation) (valid : IsNumberedInterpretation i) where
  abbrev class_at : ℕ → ℕ → List ℕ
  class_at x c = if has (members_of i c) x then c ∷ [] else []

  -- one class more
  pub class_more : (old new members : List ℕ) (cs more : List ℕ) (c x : ℕ) → x < i.size → members ≡ filter (has (members_of i c)) (range_with_len 0 i.size) → more ≡ cs ++ c ∷ []
      → old ≡ flat_map (class_at x) cs → new ≡ old ++ copies c x members → new ≡ flat_map (class_at x) more
  class_more old new members cs more c x l are longer before step =
      step ∙ ap (λ (s : List ℕ). s ++ copies c x members) before
      ∙ ap (λ (s : List ℕ). flat_map (class_at x) cs ++ s) (ap (copies c x) are ∙ once (has (members_of i c)) c x i.size l)
      ∙ sym (ap (flat_map (class_at x)) longer ∙ flat_more (class_at x) cs c)

  -- what is not in a class
  outside : (c x : ℕ) → i.size ≤ x → has (members_of i c) x ≡ false
  outside c x past = elim (cases_lt c (length i.classes)) [
    | inl low ↦ get_or_past (members_of i c) x false (omega (arith, past, valid.classes c low))
    | inr high ↦ ap (λ (row : List Bool). has row x) (get_or_past i.classes c [] (omega (arith, high)))
  ]

  no_class : (x : ℕ) → i.size ≤ x → (cs : List ℕ) → flat_map (class_at x) cs ≡ []
  no_class x past [] = refl
  no_class x past (c ∷ cs) = ap (λ (b : Bool). (if b then c ∷ [] else []) ++ flat_map (class_at x) cs) (outside c x past) ∙ no_class x past cs

  -- those of the classes that have elements are all
  pub all_classes : (lists : List (List ℕ)) (cs : List ℕ) → length lists ≡ i.size → cs ≡ filter (has_elements i) (range_with_len 1 (length i.classes - 1))
      → ((x : ℕ) → x < i.size → list_at lists x ≡ flat_map (class_at x) cs) → (x : ℕ) → list_at lists x ≡ classes_at i x
  all_classes lists cs long are each x = elim (cases_lt x i.size) [
    | inl low ↦
        each x low ∙ ap (flat_map (class_at x)) are
        ∙ filtered (class_at x) (has_elements i) (λ c none. ap (λ (b : Bool). if b then c ∷ [] else []) (has_none (members_of i c) none x)) (range_with_len 1 (length i.classes - 1))
    | inr past ↦ get_or_past lists x [] (omega (arith, past, long)) ∙ sym (no_class x (omega (arith, past)) (range_with_len 1 (length i.classes - 1)))
  ]

-- ---- the individuals of an element

pub pushed_at : (lists : List (List ℕ)) (e x n : ℕ) → e < length lists → list_at (set lists e (list_at lists e ++ n ∷ [])) x ≡ list_at lists x ++ (if e == x then n ∷ [] else [])
pushed_at lists e x n l = elim (cases_eq x e) [
  | inl same ↦
      ap (λ (k : ℕ). list_at (set lists e (list_at lists e ++ n ∷ [])) k) same ∙ get_or-set_same lists e (list_at lists e ++ n ∷ []) [] l
      ∙ sym (ap (λ (b : Bool). list_at lists x ++ (if b then n ∷ [] else [])) (eq-eqb e x (sym same)) ∙ ap (λ (k : ℕ). list_at lists k ++ n ∷ []) same)
  | inr ne ↦
      get_or-set_other lists e x (list_at lists e ++ n ∷ []) [] ne
      ∙ sym (ap (λ (b : Bool). list_at lists x ++ (if b then n ∷ [] else [])) (ne_eqb e x (λ same. ne (sym same))) ∙ append-nil (list_at lists x))
]

-- one individual more
pub individual_more : (old new : List (List ℕ)) (xs : List ℕ) (e n : ℕ) → n < length xs → e ≡ get_or xs n 0 → e < length old → new ≡ set old e (list_at old e ++ n ∷ [])
    → ((x : ℕ) → list_at old x ≡ individuals_at (take n xs) x) → (x : ℕ) → list_at new x ≡ individuals_at (take (n + 1) xs) x
individual_more old new xs e n l is there step before x =
    let f : ℕ × ℕ → List ℕ = λ a. if a.1 == x then a.0 ∷ [] else [] in
    ap (λ (lists : List (List ℕ)). list_at lists x) step ∙ pushed_at old e x n there
    ∙ ap (λ (s : List ℕ). s ++ (if e == x then n ∷ [] else [])) (before x)
    ∙ ap (λ (k : ℕ). individuals_at (take n xs) x ++ (if k == x then n ∷ [] else [])) is
    ∙ sym (enumerated_more f 0 xs n n 0 l (omega arith))

-- ---- a node

pub node_pieces : (out indent lead number labels quote lines end : List ℕ) → (((((out ++ (indent ++ number)) ++ (lead ++ number)) ++ labels) ++ quote) ++ lines) ++ end ≡ out ++ (indent ++ number ++ lead ++ number ++ labels ++ quote ++ lines ++ end)
node_pieces out indent lead number labels quote lines end = simp append_assoc refl
