-- Rows of classes of which those without elements have one in common: at first, and with one element more.
use Rattle.std.proofs.Common.{◌≡◌, ◌≢◌, ℕ, zero, suc, ◌+◌, ◌-◌, ◌<◌, inl, inr, Bool, true, false, cond, List, [], ◌∷◌, ◌++◌, length, map, get_or, set, replicate, refl, sym, ap, ◌∙◌, arith, true≢false}
use Rattle.std.specs.List.{filter, range_with_len}
use Rattle.std.proofs.lemmas.Bool.{cases_eq, cases_lt}
use Rattle.std.proofs.lemmas.List.{append-nil, get_or-map, get_or-replicate, get_or_append_left, get_or_push, get_or_past, get_or-set_other, get_or-set_same, length-map, length_push, length-replicate, length-set, map-id, same_lists}
use Rattle.std.proofs.lemmas.List.Elements.{filter-append}
use Rattle.std.proofs.lemmas.List.Folds.{list_any_at}
use Rattle.std.proofs.lemmas.List.FromFn.{map-range_with_len_more}
use Rattle.interpretation_spec.specs.ClassRows.{ArePlaced, rows_at}
use Rattle.interpretation_spec.specs.Members.{has_some}

none : (n : ℕ) → has_some (replicate n false) ≡ false
none zero = refl
none (suc n) = none n

-- a row without elements
without : (row : List Bool) → has_some row ≡ false → replicate (length row) false ≡ row
without [] h = refl
without (true ∷ row) h = absurd (true≢false h)
without (false ∷ row) h = ap (λ (rest : List Bool). false ∷ rest) (without row h)

-- with one element
has_that : (row : List Bool) (x : ℕ) → x < length row → has_some (set row x true) ≡ true
has_that row x l = list_any_at (λ b. b) (set row x true) x false (omega (arith, l, length-set row x true)) (get_or-set_same row x true false l)

-- ---- those with elements, in order

found_more : (p : ℕ → Bool) (c : ℕ) → 0 < c → filter p (range_with_len 1 (c + 1 - 1)) ≡ filter p (range_with_len 1 (c - 1)) ++ cond (p c) (c ∷ []) []
found_more p c some =
    ap (λ (n : ℕ). filter p (range_with_len 1 n)) (omega arith)
    ∙ ap (filter p) (simp map-id at (map-range_with_len_more (λ x. x) 1 (c - 1) c (omega arith)))
    ∙ filter-append p (range_with_len 1 (c - 1)) (c ∷ [])

pub one_found : (p : ℕ → Bool) (c : ℕ) → 0 < c → p c ≡ true → filter p (range_with_len 1 (c + 1 - 1)) ≡ filter p (range_with_len 1 (c - 1)) ++ c ∷ []
one_found p c some is = found_more p c some ∙ ap (λ (b : Bool). filter p (range_with_len 1 (c - 1)) ++ cond b (c ∷ []) []) is

pub none_found : (p : ℕ → Bool) (c : ℕ) → 0 < c → p c ≡ false → filter p (range_with_len 1 (c + 1 - 1)) ≡ filter p (range_with_len 1 (c - 1))
none_found p c some is =
    found_more p c some ∙ ap (λ (b : Bool). filter p (range_with_len 1 (c - 1)) ++ cond b (c ∷ []) []) is ∙ append-nil (filter p (range_with_len 1 (c - 1)))

-- ---- at first

abbrev zeros : ℕ → List ℕ
zeros n = replicate n 0

zero_at : (n c : ℕ) → get_or (zeros n) c 0 ≡ zero
zero_at n c = elim (cases_lt c n) [
  | inl low ↦ get_or-replicate n c zero zero low
  | inr past ↦ get_or_past (zeros n) c 0 (omega (arith, length-replicate {A = ℕ} n 0))
]

module _ (n : ℕ) (some : 0 < n) where
  abbrev first_places : List ℕ
  first_places = set (zeros n) 0 1

  of_thing : get_or first_places 0 0 ≡ 1
  of_thing = get_or-set_same (zeros n) 0 1 0 (omega (arith, some, length-replicate {A = ℕ} n 0))

  of_others : (c : ℕ) → 0 < c → get_or first_places c 0 ≡ 0
  of_others c l = get_or-set_other (zeros n) 0 c 1 0 (λ same. absurd (omega (arith, same))) ∙ zero_at n c

  first_there : (c : ℕ) → get_or first_places c 0 < 2
  first_there zero = omega (arith, of_thing)
  first_there (suc c) = omega (arith, of_others (suc c) (omega arith))

  first_own : (c d : ℕ) → 0 < get_or first_places c 0 → get_or first_places c 0 ≡ get_or first_places d 0 → c ≡ d
  first_own zero zero l same = refl
  first_own zero (suc d) l same = absurd (omega (arith, l, same, of_others (suc d) (omega arith)))
  first_own (suc c) d l same = absurd (omega (arith, l, of_others (suc c) (omega arith)))

pub placed_at_first : (rows : List (List Bool)) (places : List ℕ) (size n : ℕ) → 0 < n → rows ≡ replicate size false ∷ replicate size true ∷ [] → places ≡ replicate n 0 → ArePlaced rows (set places 0 1)
placed_at_first rows places size n some are is = rw (are, is) (record {
  common = none size;
  there = first_there n some;
  own = first_own n some;
  used = λ c l used. absurd (omega (arith, used, of_others n some c l));
})

same_row : (rows : List (List Bool)) (n : ℕ) → map (λ place. get_or rows place []) (zeros n) ≡ replicate n (get_or rows 0 [])
same_row rows zero = refl
same_row rows (suc n) = ap (λ (rest : List (List Bool)). get_or rows 0 [] ∷ rest) (same_row rows n)

pub rows_at_first : (rows : List (List Bool)) (places : List ℕ) (size n : ℕ) → 0 < n → rows ≡ replicate size false ∷ replicate size true ∷ [] → places ≡ replicate n 0
    → rows_at rows (set places 0 1) ≡ replicate size true ∷ replicate (n - 1) (replicate size false)
rows_at_first rows places size zero some are is = absurd (omega (arith, some))
rows_at_first rows places size (suc n) some are is =
    rw (are, is) (ap (λ (rest : List (List Bool)). replicate size true ∷ rest) (same_row (replicate size false ∷ replicate size true ∷ []) n ∙ ap (λ (k : ℕ). replicate k (replicate size false)) (omega arith)))

-- ---- with one element more

module _ (rows : List (List Bool)) (places : List ℕ) (was : ArePlaced rows places) where
  abbrev place : ℕ → ℕ
  place c = get_or places c 0

  pub row_at : (c : ℕ) → c < length places → get_or (rows_at rows places) c [] ≡ get_or rows (place c) []
  row_at c l = get_or-map (λ place. get_or rows place []) places c 0 [] l

  -- and none has an element in it
  pub has_none : (c : ℕ) → c < length places → place c ≡ 0 → has_some (get_or (rows_at rows places) c []) ≡ false
  has_none c l is = ap has_some (row_at c l ∙ ap (λ (p : ℕ). get_or rows p []) is) ∙ was.common

  pub has_one : (c : ℕ) → 0 < c → c < length places → place c ≢ 0 → has_some (get_or (rows_at rows places) c []) ≡ true
  has_one c some l not = ap has_some (row_at c l) ∙ was.used c some (elim (cases_lt 0 (place c)) [ inl used ↦ used | inr none ↦ absurd (not (omega arith)) ])

  module _ (c : ℕ) (some : 0 < c) (within : c < length places) where
    -- a row of its own, behind the others
    module _ (row : List Bool) (used : has_some row ≡ true) where
      abbrev longer : List (List Bool)
      longer = rows ++ row ∷ []

      abbrev moved : List ℕ
      moved = set places c (length rows)

      old : (p : ℕ) → p < length rows → get_or longer p [] ≡ get_or rows p []
      old p l = get_or_append_left rows (row ∷ []) [] p l

      here : get_or moved c 0 ≡ length rows
      here = get_or-set_same places c (length rows) 0 within

      new : get_or longer (get_or moved c 0) [] ≡ row
      new = get_or_push rows row [] (get_or moved c 0) (sym here)

      others : (d : ℕ) → d ≢ c → get_or moved d 0 ≡ place d
      others d ne = get_or-set_other places c d (length rows) 0 ne

      longer_there : (d : ℕ) → get_or moved d 0 < length longer
      longer_there d = elim (cases_eq d c) [
        | inl e ↦ rw e (omega (arith, here, length_push rows row))
        | inr ne ↦ let before = was.there d in omega (arith, others d ne, before, length_push rows row)
      ]

      longer_own : (d e : ℕ) → 0 < get_or moved d 0 → get_or moved d 0 ≡ get_or moved e 0 → d ≡ e
      longer_own d e l same = elim (cases_eq d c) [
        | inl dc ↦ elim (cases_eq e c) [
          | inl ec ↦ dc ∙ sym ec
          | inr ne ↦ let before = was.there e in absurd (omega (arith, before, others e ne, here, same, ap (λ (k : ℕ). get_or moved k 0) dc))
        ]
        | inr nd ↦ elim (cases_eq e c) [
          | inl ec ↦ let before = was.there d in absurd (omega (arith, before, others d nd, here, same, ap (λ (k : ℕ). get_or moved k 0) ec))
          | inr ne ↦ was.own d e (omega (arith, l, others d nd)) (sym (others d nd) ∙ same ∙ others e ne)
        ]
      ]

      longer_used : (d : ℕ) → 0 < d → 0 < get_or moved d 0 → has_some (get_or longer (get_or moved d 0) []) ≡ true
      longer_used d l at = elim (cases_eq d c) [
        | inl e ↦ rw e (ap has_some new ∙ used)
        | inr ne ↦ ap (λ (p : ℕ). has_some (get_or longer p [])) (others d ne) ∙ ap has_some (old (place d) (was.there d)) ∙ was.used d l (omega (arith, at, others d ne))
      ]

      begun : ArePlaced longer moved
      begun = record {
        common = ap has_some (old 0 (let before = was.there 0 in omega (arith, before))) ∙ was.common;
        there = longer_there;
        own = longer_own;
        used = longer_used;
      }

      rows_begun : rows_at longer moved ≡ set (rows_at rows places) c row
      rows_begun =
          same_lists (rows_at longer moved) (set (rows_at rows places) c row)
          (length-map moved (λ p. get_or longer p []) ∙ length-set places c (length rows) ∙ sym (length-set (rows_at rows places) c row ∙ length-map places (λ p. get_or rows p [])))
          (λ k d l.
          let low : k < length places = omega (arith, l, length-map moved (λ p. get_or longer p []), length-set places c (length rows)) in
          let long : length moved ≡ length places = length-set places c (length rows) in
          let left = get_or-map (λ p. get_or longer p []) moved k 0 d (omega (arith, low, long)) in
          elim (cases_eq k c) [
            | inl e ↦ left ∙ ap (λ (j : ℕ). get_or longer (get_or moved j 0) []) e ∙ new
                ∙ sym (ap (λ (j : ℕ). get_or (set (rows_at rows places) c row) j d) e ∙ get_or-set_same (rows_at rows places) c row d (omega (arith, within, length-map places (λ p. get_or rows p []))))
            | inr ne ↦ left ∙ ap (λ (p : ℕ). get_or longer p []) (others k ne) ∙ old (place k) (was.there k)
                ∙ sym (get_or-set_other (rows_at rows places) c k row d ne ∙ get_or-map (λ p. get_or rows p []) places k 0 d low)
          ])

    -- in the row that it has
    module _ (used : 0 < place c) (x : ℕ) (inside : x < length (get_or rows (place c) [])) where
      abbrev more : List Bool
      more = set (get_or rows (place c) []) x true

      abbrev put : List (List Bool)
      put = set rows (place c) more

      at_place : get_or put (place c) [] ≡ more
      at_place = get_or-set_same rows (place c) more [] (was.there c)

      elsewhere : (p : ℕ) → p ≢ place c → get_or put p [] ≡ get_or rows p []
      elsewhere p ne = get_or-set_other rows (place c) p more [] ne

      put_used : (d : ℕ) → 0 < d → 0 < place d → has_some (get_or put (place d) []) ≡ true
      put_used d l at = elim (cases_eq (place d) (place c)) [
        | inl e ↦
            ap (λ (p : ℕ). has_some (get_or put p [])) e ∙ ap has_some at_place
            ∙ has_that (get_or rows (place c) []) x inside
        | inr ne ↦ ap has_some (elsewhere (place d) ne) ∙ was.used d l at
      ]

      pub more_placed : ArePlaced put places
      more_placed = record {
        common = ap has_some (elsewhere 0 (λ same. absurd (omega (arith, used, same)))) ∙ was.common;
        there = λ d. let before = was.there d in omega (arith, before, length-set rows (place c) more);
        own = was.own;
        used = put_used;
      }

      pub rows_more : rows_at put places ≡ set (rows_at rows places) c more
      rows_more =
          same_lists (rows_at put places) (set (rows_at rows places) c more)
          (length-map places (λ p. get_or put p []) ∙ sym (length-set (rows_at rows places) c more ∙ length-map places (λ p. get_or rows p [])))
          (λ k d l.
          let low : k < length places = omega (arith, l, length-map places (λ p. get_or put p [])) in
          let left = get_or-map (λ p. get_or put p []) places k 0 d low in
          elim (cases_eq k c) [
            | inl e ↦ left ∙ ap (λ (j : ℕ). get_or put (place j) []) e ∙ at_place
                ∙ sym (ap (λ (j : ℕ). get_or (set (rows_at rows places) c more) j d) e ∙ get_or-set_same (rows_at rows places) c more d (omega (arith, within, length-map places (λ p. get_or rows p []))))
            | inr ne ↦ left ∙ elsewhere (place k) (λ same. ne (sym (was.own c k used (sym same))))
                ∙ sym (get_or-set_other (rows_at rows places) c k more d ne ∙ get_or-map (λ p. get_or rows p []) places k 0 d low)
          ])

-- a class without elements, which is not owl:Thing, begins a row with one
pub begun_with : (rows : List (List Bool)) (places : List ℕ) (now : List (List Bool)) (c x n : ℕ) (row : List Bool) → ArePlaced rows places → rows_at rows places ≡ now
    → (0 < c) × (c < length now) → has_some (get_or now c []) ≡ false → x < length (get_or now c []) → n ≡ length (get_or now c []) → row ≡ set (replicate n false) x true
    → ArePlaced (rows ++ row ∷ []) (set places c (length rows)) × (rows_at (rows ++ row ∷ []) (set places c (length rows)) ≡ set now c (set (get_or now c []) x true))
begun_with rows places now c x n row was is class none inside long with_it =
    let old : List Bool = get_or now c [] in
    let more : row ≡ set old x true = with_it ∙ ap (λ (r : List Bool). set r x true) (ap (λ (k : ℕ). replicate k false) long ∙ without old none) in
    let used : has_some row ≡ true = ap has_some more ∙ has_that old x inside in
    let within : c < length places = omega (arith, class.1, ap length is, length-map places (λ (p : ℕ). get_or rows p [])) in (
      begun rows places was c class.0 within row used,
      rows_begun rows places was c class.0 within row used ∙ ap (λ (all : List (List Bool)). set all c row) is ∙ ap (set now c) more,
    )
