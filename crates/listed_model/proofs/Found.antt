-- Rows are found by what they are of.
use Rattle.std.proofs.Common.{◌≡◌, ◌↔◌, ℕ, zero, suc, ◌+◌, ◌-◌, ◌<◌, ◌≤◌, take, drop, List, [], ◌∷◌, true, false, length, map, get_or, slice_get, Some, Contains, AllPairs, eqb, ltb, leb, refl, sym, ap, ◌∙◌, subst, subst₂, arith, inl, inr, ◌⊎◌}
use Rattle.std.specs.List.Sorted.{IsPartitionPoint, IsPartitionedBy}
use Rattle.std.proofs.lemmas.Bool.{cases_lt, cases_eq, cases_order, eq-eqb, ne_eqb, lt-ltb, ltb-true, ltb-false, leb-true, leb-false, or_cases, or_left, or_right, and_parts, and_from, eqb-true, true≢false}
use Rattle.std.proofs.lemmas.Option.{none-some, same_Some, slice_get_within, get_or_from_slice_get}
use Rattle.lemmas.proofs.Pairs.{AllPairs-tail}
use Rattle.lemmas.proofs.Places.{slice_get_there}
use Rattle.std.proofs.lemmas.List.{length-take-le, length-drop, get_or-take, get_or-drop}
use Rattle.certificate.specs.declared.listed.ClassRow.{ClassRow}
use Rattle.certificate.specs.declared.listed.PairRow.{PairRow}
use Rattle.certificate.specs.Writability.{IsPairBefore}
use Rattle.certificate.specs.View.{pair_row_of, class_row_of, targets_in}
use Rattle.listed_model.specs.Listing.{elements_of, targets_of}
use Rattle.listed_model.specs.Members.{holds}
use Rattle.listed_model.specs.Rows.{is_before}

abbrev pub ClassesRise : List ClassRow → Type 0
ClassesRise rows = AllPairs (λ p q. p.class.0 < q.class.0) rows

abbrev pub PairsRise : List PairRow → Type 0
PairsRise rows = AllPairs (λ p q. IsPairBefore (pair_row_of p) (pair_row_of q)) rows

later : {X : Type 0} (R : X → X → Type 0) (x : X) (xs : List X) → AllPairs R (x ∷ xs) → (k : ℕ) (y : X) → slice_get xs k ≡ Some y → R x y
later R x xs h k y g = let l : k < length xs = slice_get_within xs k y g in subst (R x) (get_or_from_slice_get xs k y x g) (h 0 (suc k) x (omega arith) (omega arith))

-- ---- classes

pub elements_found : (rows : List ClassRow) → ClassesRise rows → (k : ℕ) (row : ClassRow) → slice_get rows k ≡ Some row → elements_of (map class_row_of rows) row.class.0 ≡ row.elements.items
elements_found [] h k row g = absurd (none-some row g)
elements_found (r ∷ rs) h zero row g =
    let e : r ≡ row = same_Some r row g in
    rw (eq-eqb r.class.0 row.class.0 (ap (λ (w : ClassRow). w.class.0) e)) (ap (λ (w : ClassRow). w.elements.items) e)
elements_found (r ∷ rs) h (suc k) row g =
    let l : r.class.0 < row.class.0 = later (λ (p q : ClassRow). p.class.0 < q.class.0) r rs h k row g in
    rw (ne_eqb r.class.0 row.class.0 (λ e. omega arith)) (elements_found rs (AllPairs-tail (λ (p q : ClassRow). p.class.0 < q.class.0) r rs h) k row g)

pub elements_none : (rows : List ClassRow) (e : ℕ) → ((k : ℕ) (d : ClassRow) → k < length rows → (get_or rows k d).class.0 ≡ e → ⊥) → elements_of (map class_row_of rows) e ≡ []
elements_none [] e h = refl
elements_none (r ∷ rs) e h = rw (ne_eqb r.class.0 e (h 0 r (omega arith))) (elements_none rs e (λ k d l. h (suc k) d (omega arith)))

pub classes_parted : (rows : List ClassRow) (e : ℕ) → ClassesRise rows → IsPartitionedBy (λ row. ltb row.class.0 e) rows
classes_parted rows e h i j d l m t =
    elim (cases_lt i j) [
      | inl b ↦ (let u = h i j d b m in let v = ltb-true (get_or rows j d).class.0 e t in lt-ltb (get_or rows i d).class.0 e (omega arith))
      | inr b ↦ (let s : j ≡ i = omega arith in subst (λ (n : ℕ). ltb (get_or rows n d).class.0 e ≡ true) s t)
    ]

-- what the place behind those before it says
pub class_missing : (rows : List ClassRow) (e place : ℕ) → ClassesRise rows
    → IsPartitionPoint (λ row. ltb row.class.0 e ≡ true) (λ row. ltb row.class.0 e ≡ false) rows place
    → ((d : ClassRow) → place < length rows → (get_or rows place d).class.0 ≡ e → ⊥)
    → (k : ℕ) (d : ClassRow) → k < length rows → (get_or rows k d).class.0 ≡ e → ⊥
class_missing rows e place h at not_here k d l s =
    elim (cases_order k place) [
      | inl b ↦ not_here d (omega arith) (subst (λ (n : ℕ). (get_or rows n d).class.0 ≡ e) b s)
      | inr (inl b) ↦ (let u = ltb-true (get_or rows k d).class.0 e (at.0 k d (omega arith) b) in omega arith)
      | inr (inr b) ↦ (let u = h place k d b l in let v = ltb-false (get_or rows place d).class.0 e (at.1 place d (omega arith) (omega arith)) in omega arith)
    ]

-- ---- pairs

pub before_means : (r x : ℕ) (row : PairRow) → is_before r x row ≡ true → (row.property.0 < r) ⊎ ((row.property.0 ≡ r) × (row.source < x))
before_means r x row t =
    elim (or_cases (ltb row.property.0 r) _ t) [
      | inl a ↦ inl (ltb-true row.property.0 r a)
      | inr b ↦ (let c = and_parts (eqb row.property.0 r) (ltb row.source x) b in inr (eqb-true row.property.0 r c.0, ltb-true row.source x c.1))
    ]

pub before_from : (r x : ℕ) (row : PairRow) → (row.property.0 < r) ⊎ ((row.property.0 ≡ r) × (row.source < x)) → is_before r x row ≡ true
before_from r x row (inl l) = or_left (ltb row.property.0 r) _ (lt-ltb row.property.0 r l)
before_from r x row (inr s) = or_right (ltb row.property.0 r) _ (and_from (eqb row.property.0 r) (ltb row.source x) (eq-eqb row.property.0 r s.0) (lt-ltb row.source x s.1))

before_both : (r x : ℕ) (p q : PairRow) → IsPairBefore (pair_row_of p) (pair_row_of q) → (q.property.0 < r) ⊎ ((q.property.0 ≡ r) × (q.source < x)) → (p.property.0 < r) ⊎ ((p.property.0 ≡ r) × (p.source < x))
before_both r x p q (inl a) (inl b) = inl (omega arith)
before_both r x p q (inl a) (inr b) = let e = b.0 in inl (omega arith)
before_both r x p q (inr a) (inl b) = let e = a.0 in inl (omega arith)
before_both r x p q (inr a) (inr b) = let e = a.1 in let f = b.1 in inr (a.0 ∙ b.0, omega arith)

pub pairs_parted : (rows : List PairRow) (r x : ℕ) → PairsRise rows → IsPartitionedBy (is_before r x) rows
pairs_parted rows r x h i j d l m t =
    elim (cases_lt i j) [
      | inl b ↦ before_from r x (get_or rows i d) (before_both r x (get_or rows i d) (get_or rows j d) (h i j d b m) (before_means r x (get_or rows j d) t))
      | inr b ↦ (let s : j ≡ i = omega arith in subst (λ (n : ℕ). is_before r x (get_or rows n d) ≡ true) s t)
    ]

not_before_itself : (r x : ℕ) (row : PairRow) → row.property.0 ≡ r → row.source ≡ x → (row.property.0 < r) ⊎ ((row.property.0 ≡ r) × (row.source < x)) → ⊥
not_before_itself r x row e f (inl l) = omega arith
not_before_itself r x row e f (inr s) = let l = s.1 in omega arith

pub pair_missing : (rows : List PairRow) (r x place : ℕ) → PairsRise rows
    → IsPartitionPoint (λ row. is_before r x row ≡ true) (λ row. is_before r x row ≡ false) rows place
    → ((d : PairRow) → place < length rows → (get_or rows place d).property.0 ≡ r → (get_or rows place d).source ≡ x → ⊥)
    → (k : ℕ) (d : PairRow) → k < length rows → (get_or rows k d).property.0 ≡ r → (get_or rows k d).source ≡ x → ⊥
pair_missing rows r x place h at not_here k d l e f =
    elim (cases_order k place) [
      | inl b ↦ not_here d (omega arith) (subst (λ (n : ℕ). (get_or rows n d).property.0 ≡ r) b e) (subst (λ (n : ℕ). (get_or rows n d).source ≡ x) b f)
      | inr (inl b) ↦ not_before_itself r x (get_or rows k d) e f (before_means r x (get_or rows k d) (at.0 k d (omega arith) b))
      | inr (inr b) ↦
          (let p = get_or rows place d in
          let t : is_before r x p ≡ true = before_from r x p (subst₂ (λ (s y : ℕ). (p.property.0 < s) ⊎ ((p.property.0 ≡ s) × (p.source < y))) e f (h place k d b l)) in
          true≢false (sym t ∙ at.1 place d (omega arith) (omega arith)))
    ]

pub targets_found : (rows : List PairRow) → PairsRise rows → (k : ℕ) (row : PairRow) → slice_get rows k ≡ Some row → targets_of (map pair_row_of rows) row.property.0 row.source ≡ targets_in row.targets
targets_found [] h k row g = absurd (none-some row g)
targets_found (r ∷ rs) h zero row g =
    let e : r ≡ row = same_Some r row g in
    rw (eq-eqb r.property.0 row.property.0 (ap (λ (w : PairRow). w.property.0) e), eq-eqb r.source row.source (ap (λ (w : PairRow). w.source) e)) (ap (λ (w : PairRow). targets_in w.targets) e)
targets_found (r ∷ rs) h (suc k) row g =
    let R : PairRow → PairRow → Type 0 = λ p q. IsPairBefore (pair_row_of p) (pair_row_of q) in
    let rest = targets_found rs (AllPairs-tail R r rs h) k row g in
    go (later R r rs h k row g) rest
  where
    go : IsPairBefore (pair_row_of r) (pair_row_of row) → targets_of (map pair_row_of rs) row.property.0 row.source ≡ targets_in row.targets → targets_of (map pair_row_of (r ∷ rs)) row.property.0 row.source ≡ targets_in row.targets
    go (inl l) rest = rw (ne_eqb r.property.0 row.property.0 (λ e. omega arith)) rest
    go (inr s) rest = let l = s.1 in rw (eq-eqb r.property.0 row.property.0 s.0, ne_eqb r.source row.source (λ e. omega arith)) rest

pub targets_none : (rows : List PairRow) (r x : ℕ) → ((k : ℕ) (d : PairRow) → k < length rows → (get_or rows k d).property.0 ≡ r → (get_or rows k d).source ≡ x → ⊥) → targets_of (map pair_row_of rows) r x ≡ []
targets_none [] r x h = refl
targets_none (p ∷ ps) r x h =
    let rest = targets_none ps r x (λ k d l. h (suc k) d (omega arith)) in
    elim (cases_eq p.property.0 r) [
      | inr ne ↦ rw (ne_eqb p.property.0 r ne) rest
      | inl e ↦ rw (eq-eqb p.property.0 r e, ne_eqb p.source x (h 0 p (omega arith) e)) rest
    ]

-- a target stands in a row of the property and the source
pub target_row : (rows : List PairRow) (r x y : ℕ) → holds (targets_of (map pair_row_of rows) r x) y ≡ true → (k : ℕ) × (row : PairRow) × (slice_get rows k ≡ Some row) × (row.property.0 ≡ r) × (row.source ≡ x) × (holds (targets_in row.targets) y ≡ true)
target_row [] r x y t = absurd (true≢false (sym t))
target_row (p ∷ ps) r x y t =
    elim (cases_eq p.property.0 r) [
      | inr ne ↦ next (target_row ps r x y (rw (ne_eqb p.property.0 r ne) at t))
      | inl e ↦ elim (cases_eq p.source x) [
        | inr ne ↦ next (target_row ps r x y (rw (eq-eqb p.property.0 r e, ne_eqb p.source x ne) at t))
        | inl f ↦ (0, p, refl, e, f, rw (eq-eqb p.property.0 r e, eq-eqb p.source x f) at t)
      ]
    ]
  where
    next : ((k : ℕ) × (row : PairRow) × (slice_get ps k ≡ Some row) × (row.property.0 ≡ r) × (row.source ≡ x) × (holds (targets_in row.targets) y ≡ true)) → (k : ℕ) × (row : PairRow) × (slice_get (p ∷ ps) k ≡ Some row) × (row.property.0 ≡ r) × (row.source ≡ x) × (holds (targets_in row.targets) y ≡ true)
    next s = (suc s.0, s.1, s.2, s.3, s.4, s.5)

-- ---- the rows of a property

property_le : (p q : PairRow) → IsPairBefore (pair_row_of p) (pair_row_of q) → p.property.0 ≤ q.property.0
property_le p q (inl l) = omega arith
property_le p q (inr s) = let e = s.0 in omega arith

pub properties_rise : (rows : List PairRow) → PairsRise rows → (i j : ℕ) (d : PairRow) → i ≤ j → j < length rows → (get_or rows i d).property.0 ≤ (get_or rows j d).property.0
properties_rise rows h i j d l m =
    elim (cases_lt i j) [
      | inl b ↦ property_le (get_or rows i d) (get_or rows j d) (h i j d b m)
      | inr b ↦ (let s : i ≡ j = omega arith in subst (λ (n : ℕ). (get_or rows i d).property.0 ≤ (get_or rows n d).property.0) s (omega arith))
    ]

abbrev pub IsStart : List PairRow → ℕ → ℕ → Type 0
IsStart rows r a = IsPartitionPoint (λ (row : PairRow). ltb row.property.0 r ≡ true) (λ (row : PairRow). ltb row.property.0 r ≡ false) rows a

abbrev pub IsEnd : List PairRow → ℕ → ℕ → Type 0
IsEnd rows r b = IsPartitionPoint (λ (row : PairRow). leb row.property.0 r ≡ true) (λ (row : PairRow). leb row.property.0 r ≡ false) rows b

pub range_ordered : (rows : List PairRow) (r a b : ℕ) → a ≤ length rows → IsStart rows r a → IsEnd rows r b → a ≤ b
range_ordered rows r a b l at_a at_b =
    elim (cases_lt b a) [
      | inr h ↦ h
      | inl h ↦
          (let (d, g) = slice_get_there rows b (omega arith) in
          let p = get_or rows b d in
          let low = ltb-true p.property.0 r (at_a.0 b d (omega arith) h) in
          let high = leb-false p.property.0 r (at_b.1 b d (omega arith) (omega arith)) in
          absurd (omega arith))
    ]

pub range_means : (rows : List PairRow) (r a b : ℕ) → a ≤ length rows → b ≤ length rows → IsStart rows r a → IsEnd rows r b → (row : PairRow) → Contains (take (b - a) (drop a rows)) row ↔ (Contains rows row × (row.property.0 ≡ r))
range_means rows r a b la lb at_a at_b row =
    let le : a ≤ b = range_ordered rows r a b la at_a at_b in
    let long : length (take (b - a) (drop a rows)) ≡ b - a = length-take-le (b - a) (drop a rows) (omega (arith, length-drop a rows)) in (
      λ (k, l, e).
          let inside : k < b - a = omega arith in
          let here : get_or rows (a + k) row ≡ row = sym (get_or-drop a rows k row) ∙ sym (get_or-take (b - a) (drop a rows) k row inside) ∙ e in
          let low = ltb-false (get_or rows (a + k) row).property.0 r (at_a.1 (a + k) row (omega arith) (omega arith)) in
          let high = leb-true (get_or rows (a + k) row).property.0 r (at_b.0 (a + k) row (omega arith) (omega arith)) in
          let same : (get_or rows (a + k) row).property.0 ≡ r = omega arith in
          ((a + k, omega arith, here), subst (λ (w : PairRow). w.property.0 ≡ r) here same),
      λ ((k, l, e), f).
          let p = get_or rows k row in
          let same : p.property.0 ≡ r = ap (λ (w : PairRow). w.property.0) e ∙ f in
          let low : a ≤ k = elim (cases_lt k a) [
            | inr h ↦ h
            | inl h ↦ (let m = ltb-true p.property.0 r (at_a.0 k row (omega arith) h) in absurd (omega arith))
          ] in
          let high : k < b = elim (cases_lt k b) [
            | inl h ↦ h
            | inr h ↦ (let m = leb-false p.property.0 r (at_b.1 k row h l) in absurd (omega arith))
          ] in
          let inside : k - a < b - a = omega arith in
          let place : a + (k - a) ≡ k = omega arith in
          (k - a, omega arith, get_or-take (b - a) (drop a rows) (k - a) row inside ∙ get_or-drop a rows (k - a) row ∙ ap (λ n. get_or rows n row) place ∙ e),
    )

-- the rows of the property stand at the places from a up to b
pub range_places : (rows : List PairRow) (r a b : ℕ) → IsStart rows r a → IsEnd rows r b → (k : ℕ) (row : PairRow) → slice_get rows k ≡ Some row → (row.property.0 ≡ r) ↔ ((a ≤ k) × (k < b))
range_places rows r a b at_a at_b k row g =
    let l = slice_get_within rows k row g in
    let e = get_or_from_slice_get rows k row row g in
    let p = get_or rows k row in
    let same : p.property.0 ≡ row.property.0 = ap (λ (w : PairRow). w.property.0) e in (
      λ f. (
        elim (cases_lt k a) [
          | inr h ↦ h
          | inl h ↦ (let m = ltb-true p.property.0 r (at_a.0 k row (omega arith) h) in absurd (omega arith))
        ],
        elim (cases_lt k b) [
          | inl h ↦ h
          | inr h ↦ (let m = leb-false p.property.0 r (at_b.1 k row h l) in absurd (omega arith))
        ],
      ),
      λ (low, high).
          let u = ltb-false p.property.0 r (at_a.1 k row low l) in
          let v = leb-true p.property.0 r (at_b.0 k row (omega arith) high) in
          omega arith,
    )
