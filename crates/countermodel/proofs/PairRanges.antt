-- Pairs range by range.
use Rattle.std.proofs.Common.{◌≡◌, ◌↔◌, ℕ, ◌-◌, ◌<◌, ◌⊎◌, inl, inr, List, [], ◌++◌, length, get_or, Contains, Option, Some, None, AllPairs, refl, sym, ◌∙◌, subst₂, arith}
use Rattle.std.proofs.lemmas.Bool.{cases_lt}
use Rattle.std.proofs.lemmas.List.{get_or_append_left, get_or-append_right, length-append}
use Rattle.std.proofs.lemmas.List.Elements.{Contains-append_cases, Contains-append_left, Contains-append_right, Contains-get_or}
use Rattle.lemmas.proofs.Members.{Contains-none}
use Rattle.certificate.specs.declared.listed.PairRow.{PairRow}
use Rattle.countermodel.specs.LastRows.{GroupsMore}
use Rattle.countermodel.specs.Pairs.{ComesBefore, pair}
use Rattle.countermodel.specs.Ranges.{AddsRange, HasRowsBelow, IsBelow, IsWithin}
use Rattle.countermodel.specs.declared.pair.Pair.{Pair}
use Rattle.countermodel.specs.declared.pair.PairRange.{PairRange}
use Rattle.countermodel.proofs.GroupedRows.{none_grouped}

-- ---- the order of two numbers, and of pairs

abbrev AreBefore : ℕ → ℕ → ℕ → ℕ → Type 0
AreBefore m n i j = (m < i) ⊎ ((m ≡ i) × (n < j))

numbers_later : (m n a b i j : ℕ) → AreBefore m n a b → (AreBefore i j a b → ⊥) → AreBefore m n i j
numbers_later m n a b i j before not = elim (cases_lt i a) [
  | inl l ↦ absurd (not (inl l))
  | inr le ↦ elim before [
    | inl l ↦ inl (omega (arith, l, le))
    | inr (e, l) ↦ elim (cases_lt a i) [
      | inl k ↦ inl (omega (arith, e, k))
      | inr ge ↦
          let same : i ≡ a = omega (arith, le, ge) in
          elim (cases_lt j b) [
            | inl k ↦ absurd (not (inr (same, k)))
            | inr past ↦ inr (e ∙ sym same, omega (arith, l, past))
          ]
    ]
  ]
]

numbers_through : (m n a b i j : ℕ) → AreBefore m n a b → AreBefore a b i j → AreBefore m n i j
numbers_through m n a b i j h k = elim h [
  | inl l ↦ elim k [ inl o ↦ inl (omega (arith, l, o)) | inr (e, o) ↦ inl (omega (arith, l, e)) ]
  | inr (e, l) ↦ elim k [ inl o ↦ inl (omega (arith, e, o)) | inr (f, o) ↦ inr (e ∙ f, omega (arith, l, o)) ]
]

numbers_sides : (m n i j : ℕ) → AreBefore m n i j ⊎ (AreBefore m n i j → ⊥)
numbers_sides m n i j = elim (cases_lt m i) [
  | inl l ↦ inl (inl l)
  | inr le ↦ elim (cases_lt i m) [
    | inl l ↦ inr (λ h. elim h [ inl k ↦ absurd (omega (arith, l, k)) | inr (e, _) ↦ absurd (omega (arith, l, e)) ])
    | inr ge ↦
        let same : m ≡ i = omega (arith, le, ge) in
        elim (cases_lt n j) [
          | inl l ↦ inl (inr (same, l))
          | inr past ↦ inr (λ h. elim h [ inl k ↦ absurd (omega (arith, same, k)) | inr (_, k) ↦ absurd (omega (arith, past, k)) ])
        ]
  ]
]

-- what comes before a pair comes before all that do not
later : (p cut q : Pair) → ComesBefore p cut → (ComesBefore q cut → ⊥) → ComesBefore p q
later p cut q before not = elim (cases_lt q.property.0 cut.property.0) [
  | inl l ↦ absurd (not (inl l))
  | inr le ↦ elim before [
    | inl l ↦ inl (omega (arith, l, le))
    | inr (e, h) ↦ elim (cases_lt cut.property.0 q.property.0) [
      | inl k ↦ inl (omega (arith, e, k))
      | inr ge ↦
          let same : q.property.0 ≡ cut.property.0 = omega (arith, le, ge) in
          inr (e ∙ sym same, numbers_later p.source p.target cut.source cut.target q.source q.target h (λ k. not (inr (same, k))))
    ]
  ]
]

through : (p q r : Pair) → ComesBefore p q → ComesBefore q r → ComesBefore p r
through p q r h k = elim h [
  | inl l ↦ elim k [ inl o ↦ inl (omega (arith, l, o)) | inr (e, o) ↦ inl (omega (arith, l, e)) ]
  | inr (e, l) ↦ elim k [
    | inl o ↦ inl (omega (arith, e, o))
    | inr (f, o) ↦ inr (e ∙ f, numbers_through p.source p.target q.source q.target r.source r.target l o)
  ]
]

sides : (p q : Pair) → ComesBefore p q ⊎ (ComesBefore p q → ⊥)
sides p q = elim (cases_lt p.property.0 q.property.0) [
  | inl l ↦ inl (inl l)
  | inr le ↦ elim (cases_lt q.property.0 p.property.0) [
    | inl l ↦ inr (λ h. elim h [ inl k ↦ absurd (omega (arith, l, k)) | inr (e, _) ↦ absurd (omega (arith, l, e)) ])
    | inr ge ↦
        let same : p.property.0 ≡ q.property.0 = omega (arith, le, ge) in
        elim (numbers_sides p.source p.target q.source q.target) [
          | inl h ↦ inl (inr (same, h))
          | inr n ↦ inr (λ h. elim h [ inl k ↦ absurd (omega (arith, same, k)) | inr (_, k) ↦ absurd (n k) ])
        ]
  ]
]

never_least : (p : Pair) → ComesBefore p (pair 0 0 0) → ⊥
never_least p h = elim h [ inl l ↦ absurd (omega (arith, l)) | inr (_, k) ↦ elim k [ inl l ↦ absurd (omega (arith, l)) | inr (_, l) ↦ absurd (omega (arith, l)) ] ]

goes_below : (end : Option Pair) (from p : Pair) → IsBelow end from → ComesBefore p from → IsBelow end p
goes_below None from p forward before = tt
goes_below (Some end) from p forward before = through p from end before forward

-- ---- two lists in order, one behind the other

pub all_of_both : {X : Type 0} (R : X → X → Type 0) (xs ys : List X) → AllPairs R xs → AllPairs R ys → ((x y : X) → Contains xs x → Contains ys y → R x y) → AllPairs R (xs ++ ys)
all_of_both R xs ys first second both = λ i j d l k.
    let long = length-append xs ys in
    elim (cases_lt j (length xs)) [
      | inl low ↦ subst₂ R (sym (get_or_append_left xs ys d i (omega (arith, l, low)))) (sym (get_or_append_left xs ys d j low)) (first i j d l low)
      | inr high ↦
          let at_j = sym (get_or-append_right xs ys (length xs) j d refl high) in
          elim (cases_lt i (length xs)) [
            | inl low ↦
                subst₂ R (sym (get_or_append_left xs ys d i low)) at_j
                (both (get_or xs i d) (get_or ys (j - length xs) d) (Contains-get_or xs i d low) (Contains-get_or ys (j - length xs) d (omega (arith, high, k, long))))
            | inr past ↦
                subst₂ R (sym (get_or-append_right xs ys (length xs) i d refl past)) at_j
                (second (i - length xs) (j - length xs) d (omega (arith, l, past)) (omega (arith, high, k, long)))
          ]
    ]

-- ---- ranges

module _ {S : Type 0} (adds : S → S → List PairRow → Type 0) (P : Pair → Type 0) where
  pub none_below : (start : S) → adds start start [] → HasRowsBelow adds P start (Some (pair 0 0 0)) start None
  none_below start nothing = record {
    pairs = [];
    ascend = λ i j d l k. absurd (omega (arith, l, k));
    are = λ p. (λ c. absurd (Contains-none p c), λ h. absurd (never_least p h.1));
    grouped = none_grouped adds start nothing;
  }

  pub range_added : (range : PairRange) (pairs sorted : List Pair) (old new : S) (last row : Option PairRow) → IsBelow range.end range.from
      → ((p : Pair) → Contains pairs p ↔ (P p × IsWithin range p)) → AllPairs ComesBefore sorted → ((p : Pair) → Contains sorted p ↔ Contains pairs p)
      → GroupsMore adds sorted old last new row → AddsRange adds P range old last new row
  range_added range pairs sorted old new last row forward are ascend same grouped start h =
      let in_order : AllPairs ComesBefore (h.pairs ++ sorted) = all_of_both ComesBefore h.pairs sorted h.ascend ascend
      (λ p q c d. later p range.from q ((h.are p).0 c).1 ((are q).0 ((same q).0 d)).1.0) in
      record {
        pairs = h.pairs ++ sorted;
        ascend = in_order;
        are = λ p. (
          λ c. elim (Contains-append_cases h.pairs sorted p c) [
            | inl d ↦ (let (is, below) = (h.are p).0 d in (is, goes_below range.end range.from p forward below))
            | inr d ↦ (let (is, within) = (are p).0 ((same p).0 d) in (is, within.1))
          ],
          λ h'. elim (sides p range.from) [
            | inl below ↦ Contains-append_left h.pairs sorted p ((h.are p).1 (h'.0, below))
            | inr not ↦ Contains-append_right h.pairs sorted p ((same p).1 ((are p).1 (h'.0, (not, h'.1))))
          ],
        );
        grouped = grouped start h.pairs in_order h.grouped;
      }
