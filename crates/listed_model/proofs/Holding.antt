-- Which rows have an element among their targets, and what their sources are.
use Rattle.std.proofs.Common.{◌≡◌, ◌↔◌, ◌⊎◌, inl, inr, ℕ, zero, suc, ◌+◌, ◌<◌, ◌≤◌, ◌-◌, List, [], ◌∷◌, ◌++◌, true, length, map, take, get_or, slice_get, Some, All, eqb, refl, sym, ap, ap₂, ◌∙◌, subst, arith, true≢false}
use Rattle.std.specs.Prelude.{◌||◌}
use Rattle.std.proofs.lemmas.Bool.{cases_eq, eq-eqb, ne_eqb, or_cases, or_left, or_right, cases_lt}
use Rattle.std.specs.List.{flat_map, range_with_len}
use Rattle.std.specs.List.Sorted.{IsNonDecreasing}
use Rattle.std.proofs.lemmas.List.{append-nil, get_or-map, length-map, length-append, get_or_append_left, get_or-append_right}
use Rattle.std.proofs.lemmas.List.Concat.{flat_map-append}
use Rattle.std.proofs.lemmas.List.Elements.{Contains-get_or}
use Rattle.std.proofs.lemmas.List.Folds.{list_any-append}
use Rattle.std.proofs.lemmas.Option.{same_Some, slice_get_within, get_or_from_slice_get}
use Rattle.lemmas.proofs.Places.{slice_get_there}
use Rattle.certificate.specs.View.{pair_row_of, targets_in}
use Rattle.certificate.specs.declared.listed.PairRow.{PairRow}
use Rattle.number_sets.specs.Pieces.{list_at}
use Rattle.number_sets.specs.Transposition.{copies, holders, holders_below}
use Rattle.listed_model.specs.Listing.{targets_of}
use Rattle.listed_model.specs.Members.{holds}
use Rattle.listed_model.specs.Rows.{ArePairRows, IsHolders, IsSourceAmong}
use Rattle.listed_model.proofs.Members.{holds_from_Contains}
use Rattle.listed_model.proofs.Found.{IsStart, IsEnd, targets_found, target_row, range_places}
use Rattle.listed_model.proofs.Walks.{holds_next}

-- ---- lists turned around

range_more : (a n j : ℕ) → a + n ≡ j → range_with_len a (suc n) ≡ range_with_len a n ++ j ∷ []
range_more a zero j e = ap (λ m. m ∷ []) (omega (arith, e))
range_more a (suc n) j e = ap (λ ms. a ∷ ms) (range_more (a + 1) n j (omega (arith, e)))

pub holders_more : (n : ℕ) (lists : List (List ℕ)) (k : ℕ) → holders_below (n + 1) lists k ≡ holders_below n lists k ++ copies n k (list_at lists n)
holders_more n lists k =
    let has_k : ℕ → List ℕ = λ i. copies i k (list_at lists i) in
    let one_more : n + 1 ≡ suc n = omega arith in
    let range : range_with_len 0 (n + 1) ≡ range_with_len 0 n ++ n ∷ [] = ap (range_with_len 0) one_more ∙ range_more 0 n n (omega arith) in
    ap (flat_map has_k) range
    ∙ flat_map-append has_k (range_with_len 0 n) (n ∷ [])
    ∙ ap (λ xs. holders_below n lists k ++ xs) (append-nil (has_k n))

copies_mean : (x y : ℕ) (numbers : List ℕ) (k : ℕ) → (holds (copies x y numbers) k ≡ true) ↔ ((x ≡ k) × (holds numbers y ≡ true))
copies_mean x y [] k = (λ h. absurd (true≢false (sym h)), λ p. absurd (true≢false (sym p.1)))
copies_mean x y (z ∷ zs) k = go (cases_eq z y) (copies_mean x y zs k)
  where
    go : (z ≡ y) ⊎ (z ≡ y → ⊥) → (holds (copies x y zs) k ≡ true) ↔ ((x ≡ k) × (holds zs y ≡ true)) → (holds (copies x y (z ∷ zs)) k ≡ true) ↔ ((x ≡ k) × (holds (z ∷ zs) y ≡ true))
    go (inr ne) rest = rw (ne_eqb z y ne) rest
    go (inl e) rest = rw (eq-eqb z y e) (
      λ h. elim (cases_eq x k) [ inl f ↦ (f, refl) | inr ne ↦ ((rest.0 (rw (ne_eqb x k ne) at h)).0, refl) ],
      λ p. rw (eq-eqb x k p.0) refl,
    )

below_mean : (n : ℕ) (lists : List (List ℕ)) (y k : ℕ) → (holds (holders_below n lists y) k ≡ true) ↔ ((k < n) × (holds (list_at lists k) y ≡ true))
below_mean zero lists y k = (λ h. absurd (true≢false (sym h)), λ p. absurd (omega (arith, p.0)))
below_mean (suc n) lists y k =
    let rest = below_mean n lists y k in
    let next : suc n ≡ n + 1 = omega arith in
    let is : holders_below (suc n) lists y ≡ holders_below n lists y ++ copies n y (list_at lists n) = ap (λ m. holders_below m lists y) next ∙ holders_more n lists y in
    let parts : holds (holders_below (suc n) lists y) k ≡ (holds (holders_below n lists y) k || holds (copies n y (list_at lists n)) k) = ap (λ xs. holds xs k) is ∙ list_any-append (λ v. eqb v k) (holders_below n lists y) (copies n y (list_at lists n)) in
    let last = copies_mean n y (list_at lists n) k in (
      λ h. elim (or_cases (holds (holders_below n lists y) k) (holds (copies n y (list_at lists n)) k) (sym parts ∙ h)) [
        | inl a ↦ (let (l, t) = rest.0 a in (omega arith, t))
        | inr b ↦ (let (e, t) = last.0 b in (omega arith, ap (λ m. holds (list_at lists m) y) (sym e) ∙ t))
      ],
      λ (l, t). parts ∙ elim (cases_lt k n) [
        | inl a ↦ or_left (holds (holders_below n lists y) k) (holds (copies n y (list_at lists n)) k) (rest.1 (a, t))
        | inr b ↦ (let e : n ≡ k = omega arith in or_right (holds (holders_below n lists y) k) (holds (copies n y (list_at lists n)) k) (last.1 (e, ap (λ m. holds (list_at lists m) y) e ∙ t)))
      ],
    )

-- numbers below n, then n alone
then_one : (n : ℕ) (xs ys : List ℕ) → IsNonDecreasing xs → ((v : ℕ) → holds xs v ≡ true → v < n) → ((v : ℕ) → holds ys v ≡ true → n ≡ v) → IsNonDecreasing (xs ++ ys)
then_one n xs ys up low all i j d l m =
    elim (cases_lt j (length xs)) [
      | inl b ↦ rw (get_or_append_left xs ys d i (omega arith), get_or_append_left xs ys d j b) (up i j d l b)
      | inr b ↦ subst (λ (v : ℕ). get_or (xs ++ ys) i d ≤ v) (behind j b m) (elim (cases_lt i (length xs)) [
        | inl h ↦ (let low_i = low (get_or xs i d) (holds_from_Contains xs (get_or xs i d) (Contains-get_or xs i d h)) in rw (get_or_append_left xs ys d i h) (omega arith))
        | inr h ↦ (let at_i : n ≡ get_or (xs ++ ys) i d = behind i h (omega arith) in omega arith)
      ])
    ]
  where
    behind : (k : ℕ) → length xs ≤ k → k < length (xs ++ ys) → n ≡ get_or (xs ++ ys) k d
    behind k b m =
        let long = length-append xs ys in
        all (get_or ys (k - length xs) d) (holds_from_Contains ys (get_or ys (k - length xs) d) (Contains-get_or ys (k - length xs) d (omega arith)))
        ∙ sym (get_or-append_right xs ys (length xs) k d refl b)

-- the lists that have a number are counted upwards
below_rise : (n : ℕ) (lists : List (List ℕ)) (y : ℕ) → IsNonDecreasing (holders_below n lists y)
below_rise zero lists y = λ i j d l m. absurd (omega arith)
below_rise (suc n) lists y =
    let next : suc n ≡ n + 1 = omega arith in
    let is : holders_below (suc n) lists y ≡ holders_below n lists y ++ copies n y (list_at lists n) = ap (λ m. holders_below m lists y) next ∙ holders_more n lists y in
    subst IsNonDecreasing (sym is) (then_one n (holders_below n lists y) (copies n y (list_at lists n)) (below_rise n lists y)
    (λ v h. ((below_mean n lists y v).0 h).0)
    (λ v h. ((copies_mean n y (list_at lists n) v).0 h).0))

turned_places : (rows : List PairRow) (lists : List (List ℕ)) (y : ℕ) (places : List ℕ) → lists ≡ map (λ (row : PairRow). targets_in row.targets) rows → places ≡ holders lists y
    → (k : ℕ) → (holds places k ≡ true) ↔ ((row : PairRow) × (slice_get rows k ≡ Some row) × (holds (targets_in row.targets) y ≡ true))
turned_places rows lists y places are is k =
    let T : PairRow → List ℕ = λ row. targets_in row.targets in
    let mean = below_mean (length lists) lists y k in
    let long : length lists ≡ length rows = ap length are ∙ length-map rows T in (
      λ h.
          let (l, t) = mean.0 (ap (λ xs. holds xs k) (sym is) ∙ h) in
          let (row, g) = there rows k (omega arith) in
          (row, g, ap (λ xs. holds xs y) (sym (at_row rows lists k row are g)) ∙ t),
      λ (row, g, t).
          let within = slice_get_within rows k row g in
          ap (λ xs. holds xs k) is ∙ mean.1 (omega arith, ap (λ xs. holds xs y) (at_row rows lists k row are g) ∙ t),
    )
  where
    there : (rows : List PairRow) (k : ℕ) → k < length rows → (row : PairRow) × (slice_get rows k ≡ Some row)
    there rows k l = slice_get_there rows k l

    at_row : (rows : List PairRow) (lists : List (List ℕ)) (k : ℕ) (row : PairRow) → lists ≡ map (λ (row : PairRow). targets_in row.targets) rows → slice_get rows k ≡ Some row → list_at lists k ≡ targets_in row.targets
    at_row rows lists k row are g =
        ap (λ ls. list_at ls k) are ∙ get_or-map (λ (row : PairRow). targets_in row.targets) rows k row [] (slice_get_within rows k row g) ∙ ap (λ (w : PairRow). targets_in w.targets) (get_or_from_slice_get rows k row row g)

-- the rows' targets turned around
pub turned_rows : (rows : List PairRow) (lists : List (List ℕ)) (y : ℕ) (places : List ℕ) → lists ≡ map (λ (row : PairRow). targets_in row.targets) rows → places ≡ holders lists y → IsHolders rows y places
turned_rows rows lists y places are is = record {
  ascending = subst IsNonDecreasing (sym is) (below_rise (length lists) lists y);
  those = turned_places rows lists y places are is;
}

-- ---- sources

-- a place more
pub one_place_more : (rows : List PairRow) (places : List ℕ) (i x : ℕ) (row : PairRow) → i < length places → slice_get rows (get_or places i 0) ≡ Some row
    → IsSourceAmong rows (take (i + 1) places) x ↔ (IsSourceAmong rows (take i places) x ⊎ (row.source ≡ x))
one_place_more rows places i x row l g = (
  λ (k, other, t, h, s). elim ((holds_next places i 0 k l).0 t) [
    | inl m ↦ inl (k, other, m, h, s)
    | inr e ↦ inr (ap (λ (w : PairRow). w.source) (sym (same_Some other row (sym h ∙ ap (slice_get rows) (sym e) ∙ g))) ∙ s)
  ],
  λ h. elim h [
    | inl (k, other, m, g', s) ↦ (k, other, (holds_next places i 0 k l).1 (inl m), g', s)
    | inr s ↦ (get_or places i 0, row, (holds_next places i 0 (get_or places i 0) l).1 (inr refl), g, s)
  ],
)

-- the sources of an element's rows of the property are those that the property joins to it
pub joined_by : (rows : List PairRow) (r a b x y : ℕ) (list places : List ℕ) → ArePairRows rows → IsStart rows r a → IsEnd rows r b → IsHolders rows y list
    → ((k : ℕ) → (holds places k ≡ true) ↔ ((holds list k ≡ true) × (a ≤ k) × (k < b)))
    → IsSourceAmong rows places x ↔ (holds (targets_of (map pair_row_of rows) r x) y ≡ true)
joined_by rows r a b x y list places given at_a at_b holder between = (
  λ (k, row, t, g, s).
      let (h, low, high) = (between k).0 t in
      let (other, g', u) = (holder.those k).0 h in
      let p = (range_places rows r a b at_a at_b k row g).1 (low, high) in
      let same : other ≡ row = same_Some other row (sym g' ∙ g) in
      let is = ap₂ (targets_of (map pair_row_of rows)) (sym p) (sym s) ∙ targets_found rows given.ordered k row g in
      ap (λ ts. holds ts y) is ∙ subst (λ (w : PairRow). holds (targets_in w.targets) y ≡ true) same u,
  λ t.
      let (k, row, g, p, s, u) = target_row rows r x y t in
      let range = (range_places rows r a b at_a at_b k row g).0 p in
      (k, row, (between k).1 ((holder.those k).1 (row, g, u), range.0, range.1), g, s),
)

-- the places are those of rows
pub places_there : (rows : List PairRow) (y : ℕ) (list places : List ℕ) → IsHolders rows y list → ((k : ℕ) → holds places k ≡ true → holds list k ≡ true) → All (λ k. k < length rows) places
places_there rows y list places holder among k d l =
    let place = get_or places k d in
    let (row, g, t) = (holder.those place).0 (among place (holds_from_Contains places place (Contains-get_or places k d l))) in
    slice_get_within rows place row g
