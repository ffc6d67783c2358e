-- Pairs by their numbers, list by list.
use Rattle.std.proofs.Common.{◌≡◌, ◌↔◌, ℕ, ◌+◌, ◌/◌, ◌^◌, ◌<◌, ◌≤◌, inl, inr, List, [], ◌++◌, length, get_or, map, Contains, Option, AllPairs, refl, sym, ap, ◌∙◌, subst, subst₂, arith}
use Rattle.std.proofs.lemmas.Bool.{cases_eq, cases_lt}
use Rattle.std.proofs.lemmas.List.{append-nil, append_assoc, get_or-map, get_or_append_left, length-append, length-map}
use Rattle.std.proofs.lemmas.List.Elements.{Contains-append_cases, Contains-append_left, Contains-append_right}
use Rattle.lemmas.proofs.Mapped.{Contains-map, slice_get_map_from}
use Rattle.lemmas.proofs.Members.{Contains-none, Contains-from_slice_get, slice_get-from_Contains}
use Rattle.number_sets.specs.Pieces.{list_at}
use Rattle.number_sets.proofs.Members.{nothing_past}
use Rattle.certificate.specs.declared.listed.PairRow.{PairRow}
use Rattle.countermodel.specs.Keys.{HasPair, pair_at}
use Rattle.countermodel.specs.LastRows.{GroupsAll, GroupsMore, HasGrouped}
use Rattle.countermodel.specs.Pairs.{ComesBefore}
use Rattle.countermodel.specs.declared.pair.Pair.{Pair}
use Rattle.countermodel.proofs.PairRanges.{all_of_both}

-- numbers in order are those of pairs in order
keys_before : (r a b : ℕ) → a < b → ComesBefore (pair_at r a) (pair_at r b)
keys_before r a b l = inr (
  refl,
  elim (cases_lt (a / 2 ^ 32) (b / 2 ^ 32)) [
    | inl k ↦ inl k
    | inr k ↦ inr (omega (arith, l, k), omega (arith, l, k))
  ],
)

pub in_order : (r : ℕ) (keys : List ℕ) → AllPairs (λ x y. x < y) keys → AllPairs ComesBefore (map (pair_at r) keys)
in_order r keys ascend i j d l k =
    let low : j < length keys = omega (arith, k, length-map keys (pair_at r)) in
    subst₂ ComesBefore (sym (get_or-map (pair_at r) keys i 0 d (omega (arith, l, low)))) (sym (get_or-map (pair_at r) keys j 0 d low))
    (keys_before r (get_or keys i 0) (get_or keys j 0) (ascend i j 0 l low))

-- the pairs of a list
pub of_list : (lists : List (List ℕ)) (r : ℕ) (keys : List ℕ) → ((n : ℕ) → Contains keys n ↔ Contains (list_at lists r) n)
    → (p : Pair) → Contains (map (pair_at r) keys) p ↔ (HasPair lists p × (p.property.0 ≡ r))
of_list lists r keys same p = (
  λ c.
      let (n, at) = slice_get-from_Contains (map (pair_at r) keys) p c in
      let (key, there, is) = slice_get_map_from (pair_at r) keys n p at in
      let of : p.property.0 ≡ r = ap (λ (q : Pair). q.property.0) (sym is) in
      let listed = (same key).0 (Contains-from_slice_get keys n key there) in
      ((key, subst (λ (i : ℕ). Contains (list_at lists i) key) (sym of) listed, ap (λ (i : ℕ). pair_at i key) of ∙ is), of),
  λ ((key, c, is), of).
      subst (Contains (map (pair_at r) keys)) (ap (λ (i : ℕ). pair_at i key) (sym of) ∙ is)
      (Contains-map (pair_at r) keys key ((same key).1 (subst (λ (i : ℕ). Contains (list_at lists i) key) of c))),
)

-- what is in order is so without what is behind
first_part : {X : Type 0} (R : X → X → Type 0) (xs ys : List X) → AllPairs R (xs ++ ys) → AllPairs R xs
first_part R xs ys all i j d l k =
    subst₂ R (get_or_append_left xs ys d i (omega (arith, l, k))) (get_or_append_left xs ys d j k) (all i j d l (omega (arith, k, length-append xs ys)))

-- the pair is in one of the first lists
abbrev pub IsInFirst : List (List ℕ) → ℕ → Pair → Type 0
IsInFirst lists count p = HasPair lists p × (p.property.0 < count)

earlier_property : (r : ℕ) (p q : Pair) → p.property.0 < r → q.property.0 ≡ r → ComesBefore p q
earlier_property r p q l e = inl (omega (arith, l, e))

module _ {S : Type 0} (adds : S → S → List PairRow → Type 0) (lists : List (List ℕ)) where
  pub no_list : (now : S) (last : Option PairRow) → GroupsAll adds (IsInFirst lists 0) now last now last
  no_list now last = record {
    pairs = [];
    ascend = λ i j d l k. absurd (omega (arith, l, k));
    are = λ p. (λ c. absurd (Contains-none p c), λ h. absurd (omega (arith, h.1)));
    grouped = λ start earlier ascend h. subst (HasGrouped adds start now last) (sym (append-nil earlier)) h;
  }

  pub one_list : (count : ℕ) (keys : List ℕ) (old now new : S) (first last row : Option PairRow) → AllPairs (λ x y. x < y) keys → ((n : ℕ) → Contains keys n ↔ Contains (list_at lists count) n)
      → GroupsMore adds (map (pair_at count) keys) now last new row → GroupsAll adds (IsInFirst lists count) old first now last → GroupsAll adds (IsInFirst lists (count + 1)) old first new row
  one_list count keys old now new first last row ascend same more g =
      let pairs = map (pair_at count) keys in
      let of = of_list lists count keys same in
      record {
        pairs = g.pairs ++ pairs;
        ascend = all_of_both ComesBefore g.pairs pairs g.ascend (in_order count keys ascend) (λ p q c d. earlier_property count p q ((g.are p).0 c).1 ((of q).0 d).1);
        are = λ p. (
          λ c. elim (Contains-append_cases g.pairs pairs p c) [
            | inl d ↦ (let h = (g.are p).0 d in (h.0, omega (arith, h.1)))
            | inr d ↦ (let h = (of p).0 d in (h.0, omega (arith, h.1)))
          ],
          λ h. elim (cases_eq p.property.0 count) [
            | inl e ↦ Contains-append_right g.pairs pairs p ((of p).1 (h.0, e))
            | inr apart ↦ Contains-append_left g.pairs pairs p ((g.are p).1 (h.0, omega (arith, apart, h.1)))
          ],
        );
        grouped = λ start earlier in_all h.
            let assoc = append_assoc earlier g.pairs pairs in
            let all : AllPairs ComesBefore ((earlier ++ g.pairs) ++ pairs) = subst (AllPairs ComesBefore) (sym assoc) in_all in
            subst (HasGrouped adds start new row) assoc (more start (earlier ++ g.pairs) all (g.grouped start earlier (first_part ComesBefore (earlier ++ g.pairs) pairs all) h));
      }

  pub all_lists : (count : ℕ) (old now : S) (first last : Option PairRow) → length lists ≤ count → GroupsAll adds (IsInFirst lists count) old first now last → GroupsAll adds (HasPair lists) old first now last
  all_lists count old now first last done g = record {
    pairs = g.pairs;
    ascend = g.ascend;
    are = λ p. (λ c. ((g.are p).0 c).0, λ h. (g.are p).1 (h, omega (arith, done, nothing_past lists p.property.0 h.0 h.1)));
    grouped = g.grouped;
  }
