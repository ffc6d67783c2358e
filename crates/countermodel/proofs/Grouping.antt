-- Rows of pairs that are in order.
use Rattle.std.proofs.Common.{◌≡◌, ◌↔◌, ℕ, suc, ◌+◌, ◌<◌, ◌≤◌, ◌⊎◌, inl, inr, List, [], ◌∷◌, ◌++◌, length, take, get_or, Contains, All, AllPairs, refl, sym, ap, ap₂, ◌∙◌, subst, subst₂, arith}
use Rattle.std.specs.List.{flat_map}
use Rattle.std.proofs.lemmas.Bool.{cases_lt}
use Rattle.std.proofs.lemmas.List.{append_assoc, flat_map_more, get_or-take, get_or_default, length-take, length_push, map-append, take_more}
use Rattle.std.proofs.lemmas.List.Elements.{All-contains, All-nil, All-push, Contains-append_cases, Contains-append_left, Contains-append_right, Contains-get_or, Contains-push}
use Rattle.lemmas.proofs.Mapped.{Contains-map, slice_get_map_from}
use Rattle.lemmas.proofs.Members.{Contains-cons_cases, Contains-first, Contains-from_slice_get, Contains-later, Contains-none, slice_get-from_Contains}
use Rattle.certificate.specs.Writability.{Ascends, IsPairBefore}
use Rattle.listed_model.specs.Listing.{targets_of}
use Rattle.cert_check.specs.Additions.{SomeRow}
use Rattle.cert_check.proofs.ListedRows.{listed_target}
use Rattle.countermodel.specs.declared.pair.Pair.{Pair}
use Rattle.countermodel.specs.Pairs.{AddsPair, AreGrouped, ComesBefore, IsOfLast, Row, as_row, pair, pairs_in, row_with, to_last}
use Rattle.countermodel.proofs.Ends.{All-front, All-last, all_before_last, ends, pairs_of_front, pairs_with_last}

-- ---- the pairs of rows

rows_then : (front : List Row) (row : Row) → flat_map pairs_in (front ++ row ∷ []) ≡ flat_map pairs_in front ++ pairs_in row
rows_then front row = sym (flat_map_more pairs_in [] front row)

of_row : (rows : List Row) (row : Row) (q : Pair) → Contains rows row → Contains (pairs_in row) q → Contains (flat_map pairs_in rows) q
of_row [] row q c h = absurd (Contains-none row c)
of_row (r ∷ rows) row q c h = elim (Contains-cons_cases r row rows c) [
  | inl e ↦ Contains-append_left (pairs_in r) (flat_map pairs_in rows) q (subst (λ (w : Row). Contains (pairs_in w) q) (sym e) h)
  | inr d ↦ Contains-append_right (pairs_in r) (flat_map pairs_in rows) q (of_row rows row q d h)
]

of_target : (rows : List Row) (row : Row) (y : ℕ) → Contains rows row → Contains row.2 y → Contains (flat_map pairs_in rows) (pair row.0 row.1 y)
of_target rows row y c h = of_row rows row (pair row.0 row.1 y) c (Contains-map (pair row.0 row.1) row.2 y h)

some_row : (rows : List Row) (q : Pair) → Contains (flat_map pairs_in rows) q → SomeRow rows (λ row. Contains (pairs_in row) q)
some_row [] q c = absurd (Contains-none q c)
some_row (r ∷ rows) q c = elim (Contains-append_cases (pairs_in r) (flat_map pairs_in rows) q c) [
  | inl h ↦ (0, r, refl, h)
  | inr h ↦ (let w = some_row rows q h in (suc w.0, w.1, w.2, w.3))
]

target_from : (row : Row) (r x y : ℕ) → Contains (pairs_in row) (pair r x y) → (row.0 ≡ r) × (row.1 ≡ x) × Contains row.2 y
target_from row r x y c =
    let (n, at) = slice_get-from_Contains (pairs_in row) (pair r x y) c in
    let (z, there, is) = slice_get_map_from (pair row.0 row.1) row.2 n (pair r x y) at in (
      ap (λ (q : Pair). q.property.0) is,
      ap (λ (q : Pair). q.source) is,
      subst (Contains row.2) (ap (λ (q : Pair). q.target) is) (Contains-from_slice_get row.2 n z there),
    )

-- what is listed is what the pairs say
pub listed_are : (pairs : List Pair) (rows : List Row) → AreGrouped pairs rows → (r x y : ℕ) → Contains (targets_of rows r x) y ↔ Contains pairs (pair r x y)
listed_are pairs rows g r x y =
    let says = listed_target rows g.ascend r x y in (
      λ c.
          let (k, row, at, (e, f, h)) = says.0 c in
          let there = of_target rows row y (Contains-from_slice_get rows k row at) h in
          let named : pair row.0 row.1 y ≡ pair r x y = ap₂ (λ (s z : ℕ). pair s z y) e f in
          subst (λ (ps : List Pair). Contains ps (pair r x y)) g.together (subst (Contains (flat_map pairs_in rows)) named there),
      λ c.
          let (k, row, at, h) = some_row rows (pair r x y) (subst (λ (ps : List Pair). Contains ps (pair r x y)) (sym g.together) c) in
          says.1 (k, row, at, target_from row r x y h),
    )

-- each row has a pair
pub row_has_pair : (pairs : List Pair) (rows : List Row) → AreGrouped pairs rows → (row : Row) → Contains rows row → (y : ℕ) × Contains pairs (pair row.0 row.1 y)
row_has_pair pairs rows g row c =
    let some : 0 < length row.2 = (All-contains (λ (r : Row). (0 < length r.2) × Ascends r.2) rows row g.targets c).0 in
    let y = get_or row.2 0 0 in
    (y, subst (λ (ps : List Pair). Contains ps (pair row.0 row.1 y)) g.together (of_target rows row y c (Contains-get_or row.2 0 0 some)))

-- each row has a pair for each of its targets
pub row_has_targets : (pairs : List Pair) (rows : List Row) → AreGrouped pairs rows → (row : Row) → Contains rows row → (y : ℕ) → Contains row.2 y → Contains pairs (pair row.0 row.1 y)
row_has_targets pairs rows g row c y h = subst (λ (ps : List Pair). Contains ps (pair row.0 row.1 y)) g.together (of_target rows row y c h)

-- ---- one pair more

-- the row's property and source are the pair's or come before
UpTo : Row → Pair → Type 0
UpTo row p = (row.0 < p.property.0) ⊎ ((row.0 ≡ p.property.0) × (row.1 ≤ p.source))

up_to : (row : Row) (p : Pair) (y : ℕ) → ComesBefore (pair row.0 row.1 y) p → UpTo row p
unfolding UpTo
up_to row p y (inl l) = inl l
up_to row p y (inr (e, inl l)) = inr (e, omega arith)
up_to row p y (inr (e, inr (f, l))) = inr (e, omega arith)

each_up_to : (p : Pair) (pairs : List Pair) (rows : List Row) → AreGrouped pairs rows → All (λ q. ComesBefore q p) pairs → (row : Row) → Contains rows row → UpTo row p
each_up_to p pairs rows g before row c =
    let (y, there) = row_has_pair pairs rows g row c in
    up_to row p y (All-contains (λ q. ComesBefore q p) pairs (pair row.0 row.1 y) before there)

strictly : (row : Row) (p : Pair) (targets : List ℕ) → UpTo row p → (row.0 ≡ p.property.0 → row.1 ≡ p.source → ⊥) → IsPairBefore row (row_with p targets)
unfolding UpTo
strictly row p targets (inl l) other = inl l
strictly row p targets (inr (e, l)) other = elim (cases_lt row.1 p.source) [
  | inl k ↦ inr (e, k)
  | inr k ↦ absurd (other e (omega arith))
]

through : (row last : Row) (p : Pair) (targets : List ℕ) → IsPairBefore row last → UpTo last p → IsPairBefore row (row_with p targets)
unfolding UpTo
through row last p targets (inl l) (inl k) = inl (omega arith)
through row last p targets (inl l) (inr (e, k)) = inl (omega arith)
through row last p targets (inr (e, l)) (inl k) = inl (omega arith)
through row last p targets (inr (e, l)) (inr (f, k)) = inr (omega arith, omega arith)

abbrev row_at : ℕ → ℕ → List ℕ → Row
row_at r x ys = (r, x, ys)

-- a row of the pair comes after all rows, where the last is not of it
all_before : (p : Pair) (rows : List Row) (targets : List ℕ) → AllPairs IsPairBefore rows → ((row : Row) → Contains rows row → UpTo row p) → (IsOfLast p rows → ⊥) → All (λ row. IsPairBefore row (row_with p targets)) rows
all_before p rows targets ascend upto other = elim (ends rows) [
  | inl e ↦ subst (All Before) (sym e) (All-nil Before)
  | inr (front, last, e) ↦
      let pairs = subst (AllPairs IsPairBefore) e ascend in
      let last_there : Contains rows last = subst (λ (rs : List Row). Contains rs last) (sym e) (Contains-push front last) in
      let weak = upto last last_there in
      let earlier = all_before_last IsPairBefore front last pairs in
      let at_last = strictly last p targets weak (λ a b. other (front, last.2, e ∙ ap (λ (w : Row). front ++ w ∷ []) (ap₂ (λ (r x : ℕ). row_at r x last.2) a b))) in
      subst (All Before) (sym e) (All-push Before front last (λ k d l. through (get_or front k d) last p targets (earlier k d l) weak) at_last)
]
  where
    Before : Row → Type 0
    Before row = IsPairBefore row (row_with p targets)

ascends_push : (ys : List ℕ) (y : ℕ) → Ascends ys → ((z : ℕ) → Contains ys z → z < y) → Ascends (ys ++ y ∷ [])
ascends_push [] y h below' = tt
ascends_push (x ∷ []) y h below' = (below' x (Contains-first x []), tt)
ascends_push (x ∷ z ∷ ys) y h below' = (h.0, ascends_push (z ∷ ys) y h.1 (λ w c. below' w (Contains-later x w (z ∷ ys) c)))

target_before : (p : Pair) (y : ℕ) → ComesBefore (pair p.property.0 p.source y) p → y < p.target
target_before p y (inl l) = absurd (omega arith)
target_before p y (inr (e, inl l)) = absurd (omega arith)
target_before p y (inr (e, inr (f, l))) = l

Targets : Row → Type 0
Targets row = (0 < length row.2) × Ascends row.2

longer : (p : Pair) (pairs : List Pair) (front : List Row) (ys : List ℕ) → AreGrouped pairs (front ++ row_with p ys ∷ []) → All (λ q. ComesBefore q p) pairs → AreGrouped (pairs ++ p ∷ []) (front ++ row_with p (ys ++ p.target ∷ []) ∷ [])
unfolding Targets
longer p pairs front ys g before =
    let old = row_with p ys in
    let new = row_with p (ys ++ p.target ∷ []) in
    let below' : (z : ℕ) → Contains ys z → z < p.target = λ z c.
    target_before p z (All-contains (λ q. ComesBefore q p) pairs (pair p.property.0 p.source z) before (row_has_targets pairs (front ++ old ∷ []) g old (Contains-push front old) z c)) in
    let had = All-last Targets front old g.targets in
    record {
      together = rows_then front new
          ∙ ap (λ (ps : List Pair). flat_map pairs_in front ++ ps) (map-append (pair p.property.0 p.source) ys (p.target ∷ []))
          ∙ sym (append_assoc (flat_map pairs_in front) (pairs_in old) (p ∷ []))
          ∙ ap (λ (ps : List Pair). ps ++ p ∷ []) (sym (rows_then front old) ∙ g.together);
      ascend = pairs_with_last IsPairBefore front new (pairs_of_front IsPairBefore front old g.ascend) (all_before_last IsPairBefore front old g.ascend);
      targets = All-push Targets front new (All-front Targets front old g.targets) (omega (arith, length_push ys p.target), ascends_push ys p.target had.1 below');
    }

one_more : (p : Pair) (pairs : List Pair) (rows : List Row) → (IsOfLast p rows → ⊥) → AreGrouped pairs rows → All (λ q. ComesBefore q p) pairs → AreGrouped (pairs ++ p ∷ []) (rows ++ row_with p (p.target ∷ []) ∷ [])
unfolding Targets
one_more p pairs rows other g before =
    let new = row_with p (p.target ∷ []) in record {
      together = rows_then rows new ∙ ap (λ (ps : List Pair). ps ++ p ∷ []) g.together;
      ascend = pairs_with_last IsPairBefore rows new g.ascend (all_before p rows (p.target ∷ []) g.ascend (each_up_to p pairs rows g before) other);
      targets = All-push Targets rows new g.targets (omega arith, tt);
    }

pub added : (p : Pair) (pairs : List Pair) (old new : List Row) → AddsPair p old new → AreGrouped pairs old → All (λ q. ComesBefore q p) pairs → AreGrouped (pairs ++ p ∷ []) new
added p pairs old new (to_last front ys e f) g before = subst (AreGrouped (pairs ++ p ∷ [])) (sym f) (longer p pairs front ys (subst (AreGrouped pairs) e g) before)
added p pairs old new (as_row other f) g before = subst (AreGrouped (pairs ++ p ∷ [])) (sym f) (one_more p pairs old other g before)

pub no_rows : AreGrouped [] []
no_rows = record { together = refl; ascend = λ i j d l k. absurd (omega arith); targets = All-nil (λ (row : Row). (0 < length row.2) × Ascends row.2) }

-- pairs in order, one after another
pub next_pair : (pairs : List Pair) (k : ℕ) (d : Pair) (old new : List Row) → k < length pairs → AllPairs ComesBefore pairs → AddsPair (get_or pairs k d) old new → AreGrouped (take k pairs) old → AreGrouped (take (k + 1) pairs) new
next_pair pairs k d old new l ascend adds g =
    let p = get_or pairs k d in
    let before : All (λ q. ComesBefore q p) (take k pairs) = λ j e m.
    let low : j < k = omega (arith, length-take k pairs) in
    subst₂ ComesBefore (sym (get_or-take k pairs j e low)) (get_or_default pairs k e d l) (ascend j k e low l) in
    subst (λ (ps : List Pair). AreGrouped ps new) (sym (take_more pairs k d l)) (added p (take k pairs) old new adds g before)
