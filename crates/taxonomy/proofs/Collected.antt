-- Superclasses that are collected from lists or from rows.
use Rattle.std.proofs.Common.{◌≡◌, ℕ, zero, suc, ◌<◌, List, [], ◌∷◌, length, map, replicate, get_or, Bool, true, false, cond, ltb, ◌&&◌, ◌||◌, filter, refl, sym, ap, ap₂, subst, ◌∙◌, ⊎_elim, arith}
use Rattle.std.proofs.lemmas.Bool.{and_parts, cases_lt, false≢true, le-ltb, lt-ltb}
use Rattle.std.proofs.lemmas.List.{ext_get_or, get_or-map, length-map}
use Rattle.std.proofs.Math.Bool.{and-true}
use Rattle.number_sets.specs.Pieces.{list_at}
use Rattle.number_sets.specs.Members.{has}
use Rattle.taxonomy.specs.Texts.{numbers_below, nothing_class}
use Rattle.taxonomy.specs.Relation.{is_below, is_listed, IsSquare}
use Rattle.taxonomy.specs.Superclasses.{is_among, filled, rows_of, AreOnce, AreSets, IsSetOf}
use Rattle.taxonomy.proofs.Filled.{length-filled, list_at-filled}
use Rattle.taxonomy.proofs.Once.{among_below, among_filter, once_below, once_filter}
use Rattle.taxonomy.proofs.Told.{at_beyond, has_test, length-numbers, length-rows}

pub below_from : (d n : ℕ) → ltb d n ≡ true → d < n
below_from d n h = ⊎_elim (λ l. l) (λ l. absurd (false≢true (sym (le-ltb d n l) ∙ h))) (cases_lt d n)

-- ---- from lists

module _ (n : ℕ) (apart : List Bool) (lists once : List (List ℕ)) (la : length apart ≡ n) (lo : length once ≡ n)
    (each : (c : ℕ) → c < n → IsSetOf n (list_at lists c) (list_at once c)) where
  long : length apart ≡ length once
  long = la ∙ sym lo

  at : (c : ℕ) → list_at (filled (length once) apart once) c ≡ cond (has apart c) (numbers_below (length once)) (list_at once c)
  at c = list_at-filled (length once) apart once c long

  pub lists_sets : AreSets (filled (length once) apart once)
  lists_sets = record {
    once = λ c. rw (at c) (elim (has apart c) as (λ b. AreOnce (cond b (numbers_below (length once)) (list_at once c))) [
      | true ↦ once_below (length once)
      | false ↦ ⊎_elim (λ l. (each c l).once) (λ l. subst AreOnce (sym (at_beyond once c (omega (arith, lo)))) tt) (cases_lt c n)
    ]);
    within = λ c d h.
        let size = length-filled (length once) apart once long in
        let low = below_from d n (low_at c d (has apart c) (sym (ap (λ xs. is_among xs d) (at c)) ∙ h)) in
        omega (arith, lo);
  }
    where
      low_at : (c d : ℕ) (b : Bool) → is_among (cond b (numbers_below (length once)) (list_at once c)) d ≡ true → ltb d n ≡ true
      low_at c d true h = ap (ltb d) (sym lo) ∙ sym (among_below (length once) d) ∙ h
      low_at c d false h =
          ⊎_elim
          (λ l. (and_parts (is_among (list_at lists c) d) (ltb d n) (sym ((each c l).members d) ∙ h)).1)
          (λ l. absurd (false≢true (sym (ap (λ xs. is_among xs d) (at_beyond once c (omega (arith, lo)))) ∙ h)))
          (cases_lt c n)

  pub lists_length : length (filled (length once) apart once) ≡ n
  lists_length = length-filled (length once) apart once long ∙ lo

  pub lists_each : ((c : ℕ) → c < n → has apart c ≡ is_listed lists c nothing_class) → (c d : ℕ) → c < n → d < n → is_listed (filled (length once) apart once) c d ≡ is_below lists c d
  lists_each below c d lc ld =
      ap (λ xs. is_among xs d) (at c) ∙ by_test (has apart c) ∙ ap (λ b. b || is_listed lists c d) (below c lc)
    where
      by_test : (b : Bool) → is_among (cond b (numbers_below (length once)) (list_at once c)) d ≡ (b || is_listed lists c d)
      by_test true = among_below (length once) d ∙ lt-ltb d (length once) (omega (arith, lo, ld))
      by_test false = (each c lc).members d ∙ ap (λ b. is_among (list_at lists c) d && b) (lt-ltb d n ld) ∙ and-true (is_among (list_at lists c) d)

-- ---- from rows

filled_none : (n m : ℕ) (lists : List (List ℕ)) → m ≡ length lists → filled n (replicate m false) lists ≡ lists
filled_none n zero [] e = refl
filled_none n zero (list ∷ lists) e = absurd (omega (arith, e))
filled_none n (suc m) [] e = absurd (omega (arith, e))
filled_none n (suc m) (list ∷ lists) e = ap (λ r. list ∷ r) (filled_none n m lists (omega (arith, e)))

abbrev row_members : ℕ → List Bool → List ℕ
row_members n row = filter (has row) (numbers_below n)

same_row : (n : ℕ) (row : List Bool) → length row ≡ n → map (is_among (row_members n row)) (numbers_below n) ≡ row
same_row n row long =
    let size : length (map (is_among (row_members n row)) (numbers_below n)) ≡ n = length-map (numbers_below n) (is_among (row_members n row)) ∙ length-numbers n in
    ext_get_or false (map (is_among (row_members n row)) (numbers_below n)) row (size ∙ sym long)
    (λ k l.
    let low : k < n = omega (arith, size, l) in
    has_test (is_among (row_members n row)) n k low ∙ among_filter (has row) (numbers_below n) k ∙ ap (λ b. b && has row k) (among_below n k ∙ lt-ltb k n low))

module _ (rows : List (List Bool)) where
  abbrev lists_of : List (List ℕ)
  lists_of = map (row_members (length rows)) rows

  length-lists : length lists_of ≡ length rows
  length-lists = length-map rows (row_members (length rows))

  at_row : (c : ℕ) → c < length rows → list_at lists_of c ≡ row_members (length rows) (get_or rows c [])
  at_row c l = get_or-map (row_members (length rows)) rows c [] [] l

  rows_sets : AreSets lists_of
  rows_sets = record {
    once = λ c. ⊎_elim
        (λ l. rw (at_row c l) (once_filter (has (get_or rows c [])) (numbers_below (length rows)) (once_below (length rows))))
        (λ l. subst AreOnce (sym (at_beyond lists_of c (omega (arith, length-lists)))) tt)
        (cases_lt c (length rows));
    within = λ c d h. ⊎_elim
        (λ l.
        let row = get_or rows c [] in
        let both = sym (among_filter (has row) (numbers_below (length rows)) d) ∙ sym (ap (λ xs. is_among xs d) (at_row c l)) ∙ h in
        let low = below_from d (length rows) (sym (among_below (length rows) d) ∙ (and_parts (is_among (numbers_below (length rows)) d) (has row d) both).0) in
        omega (arith, length-lists))
        (λ l. absurd (false≢true (sym (ap (λ xs. is_among xs d) (at_beyond lists_of c (omega (arith, length-lists)))) ∙ h)))
        (cases_lt c (length rows));
  }

  rows_same : IsSquare rows → rows_of lists_of ≡ rows
  rows_same square =
      let size = length-rows lists_of in
      ext_get_or [] (rows_of lists_of) rows (size ∙ length-lists)
      (λ c l.
      let low : c < length rows = omega (arith, size, length-lists) in
      get_or-map (λ list. map (is_among list) (numbers_below (length lists_of))) lists_of c [] [] (omega (arith, length-lists))
      ∙ ap₂ (λ list m. map (is_among list) (numbers_below m)) (at_row c low) length-lists
      ∙ same_row (length rows) (get_or rows c []) (square c [] low))

  -- with none apart
  filled_rows : (all : List ℕ) (apart : List Bool) (lists : List (List ℕ)) → all ≡ numbers_below (length rows) → apart ≡ replicate (length rows) false → lists ≡ map (λ row. filter (has row) all) rows → filled (length lists) apart lists ≡ lists_of
  filled_rows all apart lists ea ep el =
      let is : lists ≡ lists_of = el ∙ ap (λ ns. map (λ row. filter (has row) ns) rows) ea in
      ap₂ (λ p ls. filled (length ls) p ls) ep is ∙ filled_none (length lists_of) (length rows) lists_of (sym length-lists)

  pub collected_sets : (all : List ℕ) (apart : List Bool) (lists : List (List ℕ)) → all ≡ numbers_below (length rows) → apart ≡ replicate (length rows) false → lists ≡ map (λ row. filter (has row) all) rows → AreSets (filled (length lists) apart lists)
  collected_sets all apart lists ea ep el = subst AreSets (sym (filled_rows all apart lists ea ep el)) rows_sets

  pub collected_rows : (all : List ℕ) (apart : List Bool) (lists : List (List ℕ)) → all ≡ numbers_below (length rows) → apart ≡ replicate (length rows) false → lists ≡ map (λ row. filter (has row) all) rows → IsSquare rows → rows_of (filled (length lists) apart lists) ≡ rows
  collected_rows all apart lists ea ep el square = ap rows_of (filled_rows all apart lists ea ep el) ∙ rows_same square
