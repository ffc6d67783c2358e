-- Members of lists and of sets of numbers.
use Rattle.std.proofs.Common.{◌≡◌, ◌↔◌, ℕ, zero, suc, ◌+◌, ◌-◌, ◌<◌, ◌≤◌, Bool, true, false, ◌⊎◌, inl, inr, ⊎_elim, List, [], ◌∷◌, ◌++◌, length, get_or, set, take, drop, replicate, slice_get, Some, Contains, eqb, sym, ap, ◌∙◌, subst, arith}
use Rattle.std.specs.Prelude.{slice_set}
use Rattle.std.proofs.lemmas.Bool.{cases_eq, cases_lt, both_ways, eqb-true, ne_eqb, or_cases, false≢true}
use Rattle.std.proofs.lemmas.List.{get_or_push, get_or_append_left, get_or-set_same, get_or-set_other, get_or_past, get_or-replicate, length-replicate, take_more, take_all}
use Rattle.std.proofs.lemmas.List.Elements.{Contains-append_left, Contains-get_or, Contains-push, Contains-push_cases}
use Rattle.std.specs.List.{list_any}
use Rattle.std.proofs.lemmas.Option.{none-some, same_Some, slice_get-get_or}
use Rattle.std.proofs.lemmas.Map.Keys.{IsDistinct-from_apart}
use Rattle.std.proofs.lemmas.Map.Steps.{length-le_from_distinct_below}
use Rattle.number_sets.specs.Members.{has}
use Rattle.number_sets.specs.Pieces.{list_at}

-- ---- lists by number

-- one item more in one of the lists
pub one_more_item : {X : Type 0} (lists : List (List X)) (k : ℕ) (x : X) (j : ℕ) (y : X) → k < length lists → Contains (list_at (slice_set lists k (list_at lists k ++ x ∷ [])) j) y ↔ (Contains (list_at lists j) y ⊎ ((j ≡ k) × (y ≡ x)))
one_more_item {X} lists k x j y low = elim (cases_eq j k) [ inl e ↦ same e | inr apart ↦ other apart ]
  where
    longer : List X
    longer = list_at lists k ++ x ∷ []

    same : j ≡ k → Contains (list_at (slice_set lists k (list_at lists k ++ x ∷ [])) j) y ↔ (Contains (list_at lists j) y ⊎ ((j ≡ k) × (y ≡ x)))
    same e =
        let here : list_at (slice_set lists k (list_at lists k ++ x ∷ [])) j ≡ list_at lists k ++ x ∷ [] = ap (λ i. list_at (slice_set lists k (list_at lists k ++ x ∷ [])) i) e ∙ get_or-set_same lists k (list_at lists k ++ x ∷ []) [] low in (
          λ c. elim (Contains-push_cases (list_at lists k) x y (subst (λ (l : List X). Contains l y) here c)) [
            | inl v ↦ inl (subst (λ (i : ℕ). Contains (list_at lists i) y) (sym e) v)
            | inr i ↦ inr (e, sym i)
          ],
          λ v. subst (λ (l : List X). Contains l y) (sym here) (elim v [
            | inl c ↦ Contains-append_left (list_at lists k) (x ∷ []) y (subst (λ (i : ℕ). Contains (list_at lists i) y) e c)
            | inr p ↦ subst (Contains (list_at lists k ++ x ∷ [])) (sym p.1) (Contains-push (list_at lists k) x)
          ]),
        )

    other : (j ≡ k → ⊥) → Contains (list_at (slice_set lists k (list_at lists k ++ x ∷ [])) j) y ↔ (Contains (list_at lists j) y ⊎ ((j ≡ k) × (y ≡ x)))
    other apart =
        let there : list_at (slice_set lists k (list_at lists k ++ x ∷ [])) j ≡ list_at lists j = get_or-set_other lists k j (list_at lists k ++ x ∷ []) [] apart in (
          λ c. inl (subst (λ (l : List X). Contains l y) there c),
          λ v. elim v [
            | inl c ↦ subst (λ (l : List X). Contains l y) (sym there) c
            | inr p ↦ absurd (apart p.0)
          ],
        )

pub nothing_past : {X : Type 0} (lists : List (List X)) (k : ℕ) (x : X) → Contains (list_at lists k) x → k < length lists
nothing_past {X} lists k x c = elim (cases_lt k (length lists)) [
  | inl l ↦ l
  | inr l ↦ absurd (omega (arith, (subst (λ (l : List X). Contains l x) (get_or_past lists k [] l) c).1))
]

pub list_at_none : {X : Type 0} (n k : ℕ) → list_at (replicate {A = List X} n []) k ≡ []
list_at_none {X} n k = elim (cases_lt k n) [
  | inl l ↦ get_or-replicate n k [] [] l
  | inr l ↦ get_or_past (replicate n []) k [] (omega (arith, length-replicate {A = List X} n []))
]

-- what is said of each list by its number is said of one more too
pub each_more : {X : Type 0} (P : ℕ → List X → Type 0) (lists : List (List X)) (list : List X) (n : ℕ) → length lists ≡ n
    → ((k : ℕ) → k < n → P k (list_at lists k)) → P n list → (k : ℕ) → k < n + 1 → P k (list_at (lists ++ list ∷ []) k)
each_more {X} P lists list n long before last k low = elim (cases_eq k n) [
  | inl e ↦ subst (λ i. P i (list_at (lists ++ list ∷ []) i)) (sym e) (subst (P n) (sym (get_or_push lists list [] n long)) last)
  | inr apart ↦ subst (P k) (sym (get_or_append_left lists (list ∷ []) [] k (omega (arith, apart, low, long)))) (before k (omega (arith, apart, low)))
]

-- ---- prefixes of lists

-- one element more of a list
pub one_more_taken : {X : Type 0} (xs : List X) (k : ℕ) (d y : X) → k < length xs → Contains (take (k + 1) xs) y ↔ (Contains (take k xs) y ⊎ (get_or xs k d ≡ y))
one_more_taken {X} xs k d y low =
    let longer : take (k + 1) xs ≡ take k xs ++ get_or xs k d ∷ [] = take_more xs k d low in (
      λ c. Contains-push_cases (take k xs) (get_or xs k d) y (subst (λ (l : List X). Contains l y) longer c),
      λ v. subst (λ (l : List X). Contains l y) (sym longer) (elim v [
        | inl c ↦ Contains-append_left (take k xs) (get_or xs k d ∷ []) y c
        | inr e ↦ subst (Contains (take k xs ++ get_or xs k d ∷ [])) e (Contains-push (take k xs) (get_or xs k d))
      ]),
    )

pub member_at : {X : Type 0} (xs : List X) (k : ℕ) (d y : X) → k < length xs → get_or xs k d ≡ y → Contains xs y
member_at xs k d y low e = subst (Contains xs) e (Contains-get_or xs k d low)

-- the part of a list that has one element
pub one_taken : {X : Type 0} (xs : List X) (k : ℕ) (x : X) → slice_get xs k ≡ Some x → take (k + 1 - k) (drop k xs) ≡ x ∷ []
one_taken {X} xs k x g =
    let one : k + 1 - k ≡ 1 = omega arith in
    ap (λ n. take n (drop k xs)) one ∙ go xs k g
  where
    go : (ys : List X) (j : ℕ) → slice_get ys j ≡ Some x → take 1 (drop j ys) ≡ x ∷ []
    go [] j h = absurd (none-some x h)
    go (y ∷ ys) zero h = ap (λ z. z ∷ []) (same_Some y x h)
    go (y ∷ ys) (suc j) h = go ys j h

pub none_taken : {X : Type 0} (xs : List X) (x : X) → Contains (take 0 xs) x → ⊥
none_taken xs x c = omega (arith, c.1)

pub all_taken : {X : Type 0} (xs : List X) (k : ℕ) (x : X) → length xs ≤ k → Contains (take k xs) x ↔ Contains xs x
all_taken {X} xs k x l = (λ c. subst (λ (ys : List X). Contains ys x) (take_all k xs l) c, λ c. subst (λ (ys : List X). Contains ys x) (sym (take_all k xs l)) c)

-- ---- sets of numbers

pub has_within : (row : List Bool) (d : ℕ) → has row d ≡ true → d < length row
has_within row d h =
    ⊎_elim (λ (l : d < length row). l) (λ (l : length row ≤ d). absurd (both_ways (has row d) (get_or_past row d false l) h)) (cases_lt d (length row))

pub has_none : (n d : ℕ) → has (replicate n false) d ≡ false
has_none n d =
    ⊎_elim (λ (l : d < n). get_or-replicate n d false false l) (λ (l : n ≤ d). get_or_past (replicate n false) d false (omega (arith, length-replicate n false))) (cases_lt d n)

pub has_set_same : (row : List Bool) (d : ℕ) → d < length row → has (set row d true) d ≡ true
has_set_same row d l = get_or-set_same row d true false l

pub has_set_grows : (row : List Bool) (d e : ℕ) → has row e ≡ true → has (set row d true) e ≡ true
has_set_grows row d e h =
    elim (cases_eq e d) [
      | inl same ↦ subst (λ (x : ℕ). has (set row d true) x ≡ true) (sym same) (has_set_same row d (subst (λ (x : ℕ). x < length row) same (has_within row e h)))
      | inr apart ↦ get_or-set_other row d e true false apart ∙ h
    ]

pub has_set_cases : (row : List Bool) (d e : ℕ) → has (set row d true) e ≡ true → (e ≡ d) ⊎ (has row e ≡ true)
has_set_cases row d e h =
    elim (cases_eq e d) [
      | inl same ↦ inl same
      | inr apart ↦ inr (sym (get_or-set_other row d e true false apart) ∙ h)
    ]

-- different numbers below n are at most n
pub length-le_from_below : (xs : List ℕ) (n : ℕ) → ((m n x : ℕ) → slice_get xs m ≡ Some x → slice_get xs n ≡ Some x → m ≡ n) → ((k d : ℕ) → slice_get xs k ≡ Some d → d < n) → length xs ≤ n
length-le_from_below xs n apart within =
    length-le_from_distinct_below xs n
    (IsDistinct-from_apart eqb xs (λ i j d l k. ne_eqb (get_or xs i d) (get_or xs j d) (λ e. absurd (different i j d l k e))))
    (λ q h. let p = place_of q xs h in within p.0 q p.1)
  where
    different : (i j d : ℕ) → i < j → j < length xs → get_or xs i d ≡ get_or xs j d → ⊥
    different i j d l k e =
        let same : i ≡ j = apart i j (get_or xs j d) (slice_get-get_or xs i d (omega arith) ∙ ap Some e) (slice_get-get_or xs j d k) in
        absurd (omega arith)

    place_of : (q : ℕ) (ys : List ℕ) → list_any (eqb q) ys ≡ true → (k : ℕ) × (slice_get ys k ≡ Some q)
    place_of q [] h = absurd (false≢true h)
    place_of q (y ∷ ys) h =
        elim (or_cases (eqb q y) (list_any (eqb q) ys) h) [
          | inl e ↦ (0, ap Some (sym (eqb-true q y e)))
          | inr e ↦ let p = place_of q ys e in (suc p.0, p.1)
        ]
