-- Turns of numbers behind those that are settled.
use Rattle.std.proofs.Common.{◌≡◌, ℕ, ◌+◌, ◌-◌, ◌<◌, ◌≤◌, ◌⊎◌, inl, inr, ⊎_elim, Bool, List, [], ◌∷◌, ◌++◌, length, take, drop, slice_get, Option, Some, None, Contains, sym, ap, ◌∙◌, subst, arith, append_assoc, length-append}
use Rattle.std.proofs.Math.Seq.{take-append-add}
use Rattle.std.proofs.lemmas.Bool.{cases_lt}
use Rattle.std.proofs.lemmas.List.{append-nil, get_or_append_left, get_or-append-add, length-take, take-append-le, take_all}
use Rattle.std.proofs.lemmas.List.Elements.{Contains-append_cases, Contains-append_left, Contains-append_right, filter-append}
use Rattle.std.proofs.lemmas.List.Sorted.{IsPermutation-append_comm, IsPermutation-append_left, IsPermutation-append_right, IsPermutation-filter_both}
use Rattle.std.proofs.lemmas.Option.{get_or_from_slice_get, slice_get-get_or, slice_get_past}
use Rattle.axioms.specs.WellFormedness.{AreDistinct}
use Rattle.lemmas.proofs.Members.{Contains-from_slice_get, slice_get-from_Contains}
use Rattle.work_list.specs.declared.item.Item.{Item}
use Rattle.work_list.specs.Bag.{Adds}
use Rattle.saturate.specs.Flags.{asked, is_flagged, is_kept, kept}
use Rattle.saturate.specs.Settling.{AreAllOnce, AreEachOnce}
use Rattle.saturate.specs.Turns.{HasTurn, IsQueue, IsServedOnce}
use Rattle.saturate.proofs.Turns.{all_served, all_taken, as_many, few_served, front_kept, idle, in_hand, just_taken, moved, nobody_waits, none_waits, not_not, parted, served_once, still_there, taken_one}

-- what stands in a list behind another
slice_get_behind : (xs ys : List ℕ) (n : ℕ) → slice_get (xs ++ ys) (length xs + n) ≡ slice_get ys n
slice_get_behind xs ys n = ⊎_elim
    (λ (below : n < length ys). slice_get-get_or (xs ++ ys) (length xs + n) 0 (omega (arith, below, length-append xs ys)) ∙ ap Some (get_or-append-add xs ys n 0) ∙ sym (slice_get-get_or ys n 0 below))
    (λ (past : length ys ≤ n). slice_get_past (xs ++ ys) (length xs + n) (omega (arith, past, length-append xs ys)) ∙ sym (slice_get_past ys n past))
    (cases_lt n (length ys))

-- an element of one list behind another is of the first or of the second
slice_get_parts : (xs ys : List ℕ) (n x : ℕ) → slice_get (xs ++ ys) n ≡ Some x → ((n < length xs) × (slice_get xs n ≡ Some x)) ⊎ ((i : ℕ) × (n ≡ length xs + i) × (slice_get ys i ≡ Some x))
slice_get_parts xs ys n x at = ⊎_elim
    (λ (below : n < length xs). inl (below, slice_get-get_or xs n x below ∙ ap Some (sym (get_or_append_left xs ys x n below) ∙ get_or_from_slice_get (xs ++ ys) n x x at)))
    (λ (past : length xs ≤ n).
    let is : n ≡ length xs + (n - length xs) = omega (arith, past) in
    inr (n - length xs, is, sym (slice_get_behind xs ys (n - length xs)) ∙ subst (λ (k : ℕ). slice_get (xs ++ ys) k ≡ Some x) is at))
    (cases_lt n (length xs))

-- the second of two lists of different numbers
pub distinct_behind : (xs ys : List ℕ) → AreDistinct (xs ++ ys) → AreDistinct ys
distinct_behind xs ys distinct m n x a b = omega (arith, distinct (length xs + m) (length xs + n) x (slice_get_behind xs ys m ∙ a) (slice_get_behind xs ys n ∙ b))

-- the second list is changed for one with the same numbers
distinct_too : (xs ys zs : List ℕ) → AreDistinct (xs ++ ys) → AreEachOnce zs ys → AreDistinct (xs ++ zs)
distinct_too xs ys zs distinct once m n x a b = ⊎_elim
    (λ v. ⊎_elim
    (λ w. distinct m n x (still_there xs ys m x v.1) (still_there xs ys n x w.1))
    (λ w. absurd (apart m v w.0 w.2))
    (slice_get_parts xs zs n x b))
    (λ v. ⊎_elim
    (λ w. absurd (apart n w v.0 v.2))
    (λ w. omega (arith, v.1, w.1, once.distinct v.0 w.0 x v.2 w.2))
    (slice_get_parts xs zs n x b))
    (slice_get_parts xs zs m x a)
  where
    apart : (i : ℕ) → (i < length xs) × (slice_get xs i ≡ Some x) → (j : ℕ) → slice_get zs j ≡ Some x → ⊥
    apart i v j at =
        let there = slice_get-from_Contains ys x ((once.each x).0 (Contains-from_slice_get zs j x at)) in
        let same : i ≡ length xs + there.0 = distinct i (length xs + there.0) x (still_there xs ys i x v.1) (slice_get_behind xs ys there.0 ∙ there.1) in
        absurd (omega (arith, same, v.0))

changed : {waiting : List Item} {queued served : ℕ} (xs ys zs : List ℕ) → IsQueue waiting queued (xs ++ ys) served → AreEachOnce zs ys → IsQueue waiting queued (xs ++ zs) 0
changed {waiting} {queued} xs ys zs q once = record {
  contexts = q.contexts;
  long = q.long;
  each = λ n c at. ⊎_elim (λ w. inl (w.0, λ t. w.1 (back n t))) (λ w. inr (w.0, there n w.1)) (q.each n c at);
  known = q.known;
  within = λ n t. q.within n (back n t);
  distinct = distinct;
  tally = omega (arith, q.tally, as_many (xs ++ ys) (xs ++ zs) q.distinct distinct (λ n. (there n, back n)));
  low = omega arith;
}
  where
    there : (n : ℕ) → Contains (xs ++ ys) n → Contains (xs ++ zs) n
    there n c = ⊎_elim (λ first. Contains-append_left xs zs n first) (λ second. Contains-append_right xs zs n ((once.each n).1 second)) (Contains-append_cases xs ys n c)

    back : (n : ℕ) → Contains (xs ++ zs) n → Contains (xs ++ ys) n
    back n c = ⊎_elim (λ first. Contains-append_left xs ys n first) (λ second. Contains-append_right xs ys n ((once.each n).0 second)) (Contains-append_cases xs zs n c)

    distinct : AreDistinct (xs ++ zs)
    distinct = distinct_too xs ys zs q.distinct once

-- ---- the first numbers are settled

module _ {waiting : List Item} {queued : ℕ} (settled taken : List ℕ) (served : ℕ) (q : IsQueue waiting queued (settled ++ taken) (length settled + served)) where
  front : take (length settled + served) (settled ++ taken) ≡ settled ++ take served taken
  front = take-append-add settled taken served

  next : slice_get (settled ++ taken) (length settled + served) ≡ slice_get taken served
  next = slice_get_behind settled taken served

  pub low_then : served ≤ length taken
  low_then = omega (arith, q.low, length-append settled taken)

  pub few_then : length (settled ++ take served taken) ≤ queued
  few_then = subst (λ (ns : List ℕ). length ns ≤ queued) front (few_served q)

  pub long_then : length (settled ++ take served taken) ≡ length settled + served
  long_then = omega (arith, length-append settled (take served taken), length_front)
    where
      length_front : length (take served taken) ≡ served
      length_front = simp length-take (omega (arith, low_then))

  pub all_then : queued ≤ length (settled ++ take served taken) → (n : ℕ) → n < queued → Contains (settled ++ take served taken) n
  all_then most n below = subst (λ (ns : List ℕ). Contains ns n) front (all_served q (subst (λ (ns : List ℕ). queued ≤ length ns) (sym front) most) n below)

  pub once_then : IsServedOnce (record { queued = queued; waiting = waiting; served = settled ++ take served taken; hand = slice_get taken served })
  once_then = subst (λ (o : Option ℕ). IsServedOnce (record { queued = queued; waiting = waiting; served = settled ++ take served taken; hand = o })) next
      (subst (λ (ns : List ℕ). IsServedOnce (record { queued = queued; waiting = waiting; served = ns; hand = slice_get (settled ++ taken) (length settled + served) })) front (served_once q))

  pub hand_then : (n : ℕ) → slice_get taken served ≡ Some n → (n < queued) × (length (settled ++ take served taken) < queued)
  hand_then n at = subst (λ (ns : List ℕ). (n < queued) × (length ns < queued)) front (in_hand q n (next ∙ at))

  -- where no number is in hand
  pub idle_then : slice_get taken served ≡ None → length (settled ++ taken) ≡ length settled + served
  idle_then none = idle q (next ∙ none)

  turn_of : HasTurn queued (take (length settled + served) (settled ++ taken)) (slice_get (settled ++ taken) (length settled + served)) → HasTurn queued (settled ++ take served taken) (slice_get taken served)
  turn_of turn = subst (λ (o : Option ℕ). HasTurn queued (settled ++ take served taken) o) next
      (subst (λ (ns : List ℕ). HasTurn queued ns (slice_get (settled ++ taken) (length settled + served))) front turn)

  pub nobody_then : length waiting ≡ 0 → slice_get taken served ≡ None → HasTurn queued (settled ++ take served taken) (slice_get taken served)
  nobody_then empty none = turn_of (nobody_waits q empty (next ∙ none))

  pub none_then : queued ≤ length (settled ++ take served taken) → waiting ≡ []
  none_then most = none_waits q (subst (λ (ns : List ℕ). queued ≤ length ns) (sym front) most)

-- one that waits is taken
module _ {old new : List Item} {queued : ℕ} (settled taken : List ℕ) (served : ℕ) (x : Item) (q : IsQueue old queued (settled ++ taken) (length settled + served)) (adds : Adds x new old) (none : slice_get taken served ≡ None) where
  pub one_then : IsQueue new queued (settled ++ (taken ++ x.fact ∷ [])) (length settled + served)
  one_then = subst (λ (ns : List ℕ). IsQueue new queued ns (length settled + served)) (append_assoc settled taken (x.fact ∷ []))
      (taken_one q adds (idle_then settled taken served q none))

  pub turn_then : HasTurn queued (settled ++ take served taken) (slice_get (taken ++ x.fact ∷ []) served)
  turn_then =
      let q' = taken_one q adds (idle_then settled taken served q none) in
      subst (λ (o : Option ℕ). HasTurn queued (settled ++ take served taken) o)
      (ap (λ (ns : List ℕ). slice_get ns (length settled + served)) (append_assoc settled taken (x.fact ∷ [])) ∙ slice_get_behind settled (taken ++ x.fact ∷ []) served)
      (subst (λ (ns : List ℕ). HasTurn queued ns (slice_get (settled ++ taken ++ x.fact ∷ []) (length settled + served))) (take-append-add settled taken served)
      (just_taken (settled ++ taken) x.fact q' (idle_then settled taken served q none)))

-- ---- all are settled

module _ {waiting : List Item} {queued : ℕ} (settled taken : List ℕ) (served : ℕ) (q : IsQueue waiting queued (settled ++ taken) (length settled + served)) (most : queued ≤ length settled + served) where
  all : length (settled ++ taken) ≡ queued
  all = omega (arith, q.tally, q.low, most)

  no_more : length waiting ≡ 0
  no_more = omega (arith, q.tally, q.low, most)

  pub once_all : AreAllOnce (settled ++ taken)
  once_all = record {
    distinct = q.distinct;
    all = λ n. (
      λ c. subst (λ (k : ℕ). n < k) (sym all) (q.within n c),
      λ under. all_taken q no_more n (subst (λ (k : ℕ). n < k) all under),
    );
  }

  past : length taken ≤ served
  past = omega (arith, all, most, length-append settled taken)

  pub served_all : (settled ++ taken) ++ take 0 [] ≡ settled ++ take served taken
  served_all = append-nil (settled ++ taken) ∙ ap (λ ns. settled ++ ns) (sym (take_all served taken past))

  pub hand_all : slice_get [] 0 ≡ slice_get taken served
  hand_all = sym (slice_get_past taken served past)

-- ---- some of them wait again

-- the numbers that were taken, where the first of them are those that are not flagged
abbrev pub turns : List Bool → ℕ → List ℕ → List ℕ
turns flags served taken = kept flags (take served taken) ++ asked flags (take served taken) ++ drop served taken

module _ {waiting : List Item} {queued : ℕ} (flags : List Bool) (settled taken out : List ℕ) (served : ℕ) (q : IsQueue waiting queued (settled ++ taken) (length settled + served)) (once : AreEachOnce out (asked flags settled)) where
  -- those that go from the numbers that are settled stand at the end
  went : IsQueue waiting queued (kept flags settled ++ (taken ++ out)) 0
  went =
      let left = kept flags settled in
      let gone = asked flags settled in
      let parts = moved ((left ++ gone) ++ taken) 0 q (IsPermutation-append_left taken settled (left ++ gone) (IsPermutation-filter_both (is_kept flags) (is_flagged flags) (λ x. not_not (is_flagged flags x)) settled)) (omega arith) in
      let apart = moved (left ++ (taken ++ gone)) 0 (subst (λ (ns : List ℕ). IsQueue waiting queued ns 0) (append_assoc left gone taken) parts) (IsPermutation-append_right left (gone ++ taken) (taken ++ gone) (IsPermutation-append_comm gone taken)) (omega arith) in
      subst (λ (ns : List ℕ). IsQueue waiting queued ns 0) (append_assoc left taken out)
      (changed (left ++ taken) gone out (subst (λ (ns : List ℕ). IsQueue waiting queued ns 0) (sym (append_assoc left taken gone)) apart) once)

  pub back_then : IsQueue waiting queued (kept flags settled ++ turns flags served (taken ++ out)) (length (kept flags settled) + length (kept flags (take served (taken ++ out))))
  back_then =
      let left = kept flags settled in
      let front = take served (taken ++ out) in
      moved (left ++ turns flags served (taken ++ out)) (length left + length (kept flags front)) went
      (IsPermutation-append_right left (taken ++ out) (turns flags served (taken ++ out)) (parted flags served (taken ++ out)))
      (omega (arith, length-append left (turns flags served (taken ++ out)), length-append (kept flags front ++ asked flags front) (drop served (taken ++ out)), length-append (kept flags front) (asked flags front)))

  front_is : take served (taken ++ out) ≡ take served taken
  front_is = take-append-le served taken out (low_then settled taken served q)

  pub front_distinct : AreDistinct (take served (taken ++ out))
  front_distinct = subst (λ (ns : List ℕ). AreDistinct ns) (sym front_is) (distinct_behind settled (take served taken) (once_then settled taken served q).distinct)

  pub still_served : kept flags settled ++ take (length (kept flags (take served (taken ++ out)))) (turns flags served (taken ++ out)) ≡ kept flags (settled ++ take served taken)
  still_served =
      ap (λ ns. kept flags settled ++ ns) (front_kept flags served (taken ++ out) ∙ ap (kept flags) front_is)
      ∙ sym (filter-append (is_kept flags) settled (take served taken))
