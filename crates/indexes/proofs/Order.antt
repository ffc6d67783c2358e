-- Numbers of forms in the order of their second keys.
use Rattle.std.proofs.Common.{◌≡◌, ◌↔◌, ℕ, zero, suc, ◌+◌, ◌-◌, ◌<◌, ◌≤◌, true, false, ltb, List, [], ◌∷◌, length, get_or, slice_index, take, drop, Contains, IsPermutation, refl, sym, ap, subst, ◌∙◌, add-one, arith, inl, inr}
use Rattle.std.proofs.lemmas.Bool.{cases_lt, cases_eq, ltb-true, ltb-false}
use Rattle.std.proofs.lemmas.List.{take_all, get_or_past, length-take-le, length-drop, get_or-take, get_or-drop}
use Rattle.std.proofs.lemmas.List.Sorted.{length_permutation, Contains-permutation, IsNonDecreasingBy-drop, IsNonDecreasingBy-short, IsPermutation-sym}
use Rattle.std.proofs.lemmas.Slice.{between_is, between-put_mid, drop-put_mid, take-put_mid_below}
use Rattle.std.specs.List.Sorted.{IsPartitionPoint}
use borrow.Rule.Slice.PartMut.{put_mid, same_len_mid}
use Rattle.normal_forms.specs.declared.forms.Form.{Form}
use Rattle.lemmas.proofs.Members.{Contains-none, Contains-first}
use Rattle.indexes.specs.Lists.{list_at, AreAllListed, IsWithin}
use Rattle.indexes.specs.Seconds.{rank_at, IsInOrder}

-- what is left of a list from a place on, as the code takes it
pub to_end : (xs : List ℕ) (s : ℕ) → drop s xs ≡ take (length xs - s) (drop s xs)
to_end xs s = let long = length-drop s xs in sym (take_all (length xs - s) (drop s xs) (omega arith))

pub rest_in_order : (forms : List Form) (xs : List ℕ) (s : ℕ) → IsInOrder forms xs → IsInOrder forms (take (length xs - s) (drop s xs))
rest_in_order forms xs s order = subst (IsInOrder forms) (to_end xs s) (IsNonDecreasingBy-drop (rank_at forms) s xs order)

-- that many of the numbers have places below the bound
abbrev pub AreBelow : List Form → ℕ → List ℕ → ℕ → Type 0
AreBelow forms bound xs many = IsPartitionPoint (λ n. ltb (rank_at forms n) bound ≡ true) (λ n. ltb (rank_at forms n) bound ≡ false) xs many

parts : (forms : List Form) (xs : List ℕ) (a s t : ℕ) → s ≤ length xs → t ≤ length (drop s xs) → AreBelow forms a xs s → AreBelow forms (a + 1) (drop s xs) t
    → (n : ℕ) → Contains (take t (drop s xs)) n ↔ (Contains xs n × (rank_at forms n ≡ a))
parts forms xs a s t ls lt at_a at_b n =
    let many = length-drop s xs in
    let long = length-take-le t (drop s xs) lt in (
      λ (j, l, e).
          let here : get_or (drop s xs) j n ≡ n = sym (get_or-take t (drop s xs) j n (omega arith)) ∙ e in
          let there : get_or xs (s + j) n ≡ n = sym (get_or-drop s xs j n) ∙ here in
          let low = ltb-false (rank_at forms (get_or xs (s + j) n)) a (at_a.1 (s + j) n (omega arith) (omega arith)) in
          let high = ltb-true (rank_at forms (get_or (drop s xs) j n)) (a + 1) (at_b.0 j n (omega arith) (omega arith)) in
          let one : rank_at forms (get_or xs (s + j) n) ≡ rank_at forms n = ap (rank_at forms) there in
          let other : rank_at forms (get_or (drop s xs) j n) ≡ rank_at forms n = ap (rank_at forms) here in
          ((s + j, omega arith, there), omega (arith, low, high, one, other)),
      λ ((j, l, e), same).
          let mine : rank_at forms (get_or xs j n) ≡ a = ap (rank_at forms) e ∙ same in
          let low : s ≤ j = elim (cases_lt j s) [
            | inr m ↦ m
            | inl m ↦ (let v = ltb-true (rank_at forms (get_or xs j n)) a (at_a.0 j n (omega arith) m) in absurd (omega (arith, v, mine)))
          ] in
          let place : s + (j - s) ≡ j = omega arith in
          let there : get_or (drop s xs) (j - s) n ≡ n = get_or-drop s xs (j - s) n ∙ ap (λ i. get_or xs i n) place ∙ e in
          let same_there : rank_at forms (get_or (drop s xs) (j - s) n) ≡ a = ap (rank_at forms) there ∙ same in
          let high : j - s < t = elim (cases_lt (j - s) t) [
            | inl m ↦ m
            | inr m ↦ (let v = ltb-false (rank_at forms (get_or (drop s xs) (j - s) n)) (a + 1) (at_b.1 (j - s) n m (omega arith)) in absurd (omega (arith, v, same_there)))
          ] in
          (j - s, omega arith, get_or-take t (drop s xs) (j - s) n high ∙ there),
    )

-- those up to the next bound from the first that is not below are those at the place
pub those_at : (forms : List Form) (xs rest : List ℕ) (a s t : ℕ) → drop s xs ≡ rest → s ≤ length xs → t ≤ length rest → AreBelow forms a xs s → AreBelow forms (a + 1) rest t
    → (n : ℕ) → Contains (take t rest) n ↔ (Contains xs n × (rank_at forms n ≡ a))
those_at forms xs rest a s t is ls lt at_a at_b =
    subst (λ (ys : List ℕ). (n : ℕ) → Contains (take t ys) n ↔ (Contains xs n × (rank_at forms n ≡ a))) is
    (parts forms xs a s t ls (subst (λ (ys : List ℕ). t ≤ length ys) (sym is) lt) at_a (subst (λ (ys : List ℕ). AreBelow forms (a + 1) ys t) (sym is) at_b))

-- ---- one list put into order, among lists in one piece

pub rise : (starts xs : List ℕ) → IsWithin starts xs → (i j : ℕ) → i ≤ j → j < length starts → slice_index starts i ≤ slice_index starts j
rise starts xs within i zero le low = let e : i ≡ 0 = omega (arith, le) in rw e (omega arith)
rise starts xs within i (suc j) le low = elim (cases_lt j i) [
  | inl m ↦ (let e : i ≡ suc j = omega (arith, le, m) in rw e (omega arith))
  | inr m ↦
      (let before = rise starts xs within i j m (omega (arith, low)) in
      let next : slice_index starts j ≤ slice_index starts (j + 1) = (within j (omega (arith, low))).0 in
      let one : slice_index starts (suc j) ≡ slice_index starts (j + 1) = ap (slice_index starts) (sym (add-one j)) in
      omega (arith, before, next, one))
]

module _ (starts xs ys : List ℕ) (within : IsWithin starts xs) (i : ℕ) (low : i + 1 < length starts) (long : length ys ≡ slice_index starts (i + 1) - slice_index starts i) where
  abbrev from : ℕ
  from = slice_index starts i

  abbrev to : ℕ
  to = slice_index starts (i + 1)

  abbrev put : List ℕ
  put = put_mid from (to - from) xs ys

  pub put_here : list_at starts put i ≡ ys
  put_here = between-put_mid from (to - from) xs ys to (let w = within i low in omega (arith, w.0, w.1)) long

  pub put_elsewhere : (k : ℕ) → (k ≡ i → ⊥) → list_at starts put k ≡ list_at starts xs k
  put_elsewhere k ne =
      let w = within i low in
      elim (cases_lt (k + 1) (length starts)) [
        | inl there ↦ elim (cases_lt k i) [
          | inl below ↦
              (let end : slice_index starts (k + 1) ≤ from = rise starts xs within (k + 1) i (omega (arith, below)) (omega (arith, low)) in
              between_is put (slice_index starts k) (slice_index starts (k + 1))
              ∙ ap (drop (slice_index starts k)) (take-put_mid_below from (to - from) xs ys (slice_index starts (k + 1)) end (omega (arith, w.0, w.1)))
              ∙ sym (between_is xs (slice_index starts k) (slice_index starts (k + 1))))
          | inr above ↦
              (let start : to ≤ slice_index starts k = rise starts xs within (i + 1) k (elim (cases_lt i k) [ inl m ↦ omega (arith, m) | inr m ↦ absurd (ne (omega (arith, above, m))) ]) (omega (arith, there)) in
              ap (take (slice_index starts (k + 1) - slice_index starts k)) (drop-put_mid from (to - from) xs ys (slice_index starts k) (omega (arith, w.0, start)) (omega (arith, w.0, w.1)) long))
        ]
        | inr past ↦
            (let none : slice_index starts (k + 1) ≡ 0 = get_or_past starts (k + 1) 0 past in
            let few : slice_index starts (k + 1) - slice_index starts k ≡ 0 = omega (arith, none) in
            ap (λ (n : ℕ). take n (drop (slice_index starts k) put)) few ∙ sym (ap (λ (n : ℕ). take n (drop (slice_index starts k) xs)) few))
      ]

-- a list past the end has no number
pub none_past : (starts xs : List ℕ) (k : ℕ) → length starts ≤ k + 1 → list_at starts xs k ≡ []
none_past starts xs k past =
    let none : slice_index starts (k + 1) ≡ 0 = get_or_past starts (k + 1) 0 past in
    let few : slice_index starts (k + 1) - slice_index starts k ≡ 0 = omega (arith, none) in
    ap (λ (n : ℕ). take n (drop (slice_index starts k) xs)) few

-- ---- the lists before one are in order

pub record AreInOrderTo (forms : List Form) (starts original xs : List ℕ) (next : ℕ) : Type 0 where
  pub long : length xs ≡ length original
  pub same : (k n : ℕ) → Contains (list_at starts xs k) n ↔ Contains (list_at starts original k) n
  pub order : (k : ℕ) → k + 1 < next → IsInOrder forms (list_at starts xs k)

pub none_in_order : (forms : List Form) (starts original : List ℕ) → AreInOrderTo forms starts original original 1
none_in_order forms starts original = record {
  long = refl;
  same = λ k n. (λ c. c, λ c. c);
  order = λ k low. absurd (omega (arith, low));
}

one_more : (forms : List Form) (starts original xs ys : List ℕ) (i : ℕ) → IsWithin starts original → i + 1 < length starts → AreInOrderTo forms starts original xs (i + 1)
    → IsPermutation (list_at starts xs i) ys → IsInOrder forms ys → AreInOrderTo forms starts original (put_mid (slice_index starts i) (slice_index starts (i + 1) - slice_index starts i) xs ys) (i + 2)
one_more forms starts original xs ys i within low were moved order =
    let within' : IsWithin starts xs = λ k l. let w = within k l in (w.0, omega (arith, w.1, were.long)) in
    let w = within' i low in
    let from = slice_index starts i in
    let to = slice_index starts (i + 1) in
    let part : length (list_at starts xs i) ≡ to - from = length-take-le (to - from) (drop from xs) (omega (arith, length-drop from xs, w.0, w.1)) in
    let long : length ys ≡ to - from = length_permutation (list_at starts xs i) ys moved ∙ part in
    let here = put_here starts xs ys within' i low long in
    record {
      long = same_len_mid from (to - from) xs ys (length_permutation (list_at starts xs i) ys moved) ∙ were.long;
      same = λ k n. elim (cases_eq k i) [
        | inl e ↦ subst (λ (j : ℕ). Contains (list_at starts (put_mid from (to - from) xs ys) j) n ↔ Contains (list_at starts original j) n) (sym e) (
          λ c. (were.same i n).0 (Contains-permutation ys (list_at starts xs i) n (IsPermutation-sym (list_at starts xs i) ys moved) (subst (λ (list : List ℕ). Contains list n) here c)),
          λ c. subst (λ (list : List ℕ). Contains list n) (sym here) (Contains-permutation (list_at starts xs i) ys n moved ((were.same i n).1 c)),
        )
        | inr ne ↦ subst (λ (list : List ℕ). Contains list n ↔ Contains (list_at starts original k) n) (sym (put_elsewhere starts xs ys within' i low long k ne)) (were.same k n)
      ];
      order = λ k l. elim (cases_eq k i) [
        | inl e ↦ subst (λ (j : ℕ). IsInOrder forms (list_at starts (put_mid from (to - from) xs ys) j)) (sym e) (subst (IsInOrder forms) (sym here) order)
        | inr ne ↦ subst (IsInOrder forms) (sym (put_elsewhere starts xs ys within' i low long k ne)) (were.order k (elim (cases_lt (k + 1) (i + 1)) [ inl m ↦ m | inr m ↦ absurd (ne (omega (arith, l, m))) ]))
      ];
    }

-- the list before the next start is put into order
pub in_order_more : (forms : List Form) (starts original xs ys : List ℕ) (i next : ℕ) → i + 1 ≡ next → IsWithin starts original → next < length starts → AreInOrderTo forms starts original xs next
    → IsPermutation (take (slice_index starts next - slice_index starts i) (drop (slice_index starts i) xs)) ys → IsInOrder forms ys
    → AreInOrderTo forms starts original (put_mid (slice_index starts i) (slice_index starts next - slice_index starts i) xs ys) (next + 1)
in_order_more forms starts original xs ys i next is within =
    subst (λ (n : ℕ). n < length starts → AreInOrderTo forms starts original xs n
    → IsPermutation (take (slice_index starts n - slice_index starts i) (drop (slice_index starts i) xs)) ys → IsInOrder forms ys
    → AreInOrderTo forms starts original (put_mid (slice_index starts i) (slice_index starts n - slice_index starts i) xs ys) (n + 1)) is
    (λ low were moved order. subst (AreInOrderTo forms starts original (put_mid (slice_index starts i) (slice_index starts (i + 1) - slice_index starts i) xs ys)) (omega arith) (one_more forms starts original xs ys i within low were moved order))

-- all are, once the last start is the next
pub all_in_order : (forms : List Form) (starts original xs : List ℕ) (next : ℕ) → length starts ≤ next → AreInOrderTo forms starts original xs next → (k : ℕ) → IsInOrder forms (list_at starts xs k)
all_in_order forms starts original xs next past were k = elim (cases_lt (k + 1) next) [
  | inl m ↦ were.order k m
  | inr m ↦ subst (IsInOrder forms) (sym (none_past starts xs k (omega (arith, past, m)))) (IsNonDecreasingBy-short (rank_at forms) [] (omega arith))
]

-- where no list has a number, there is none still
pub still_listed : (starts old new : List ℕ) → length new ≡ length old → ((k n : ℕ) → Contains (list_at starts new k) n ↔ Contains (list_at starts old k) n) → AreAllListed starts old → AreAllListed starts new
still_listed starts old new long same listed nothing =
    let none : (k : ℕ) → list_at starts old k ≡ [] = λ k. empty (list_at starts old k) (λ n c. Contains-none n (subst (λ (list : List ℕ). Contains list n) (nothing k) ((same k n).1 c))) in
    empty new (λ n c. absurd (omega (arith, c.1, long, ap length (listed none))))
  where
    empty : (xs : List ℕ) → ((n : ℕ) → Contains xs n → ⊥) → xs ≡ []
    empty [] h = refl
    empty (x ∷ xs) h = absurd (h x (Contains-first x xs))
