-- Facts that are linked by a key, one more or one fewer.
use Rattle.std.proofs.Common.{◌≡◌, ◌≢◌, ℕ, suc, ◌+◌, ◌^◌, ◌<◌, ◌≤◌, inl, inr, List, [], ◌∷◌, ◌++◌, length, get_or, take, slice_get, Some, ◌↔◌, true, false, refl, sym, ap, ◌∙◌, subst, arith}
use Rattle.std.proofs.lemmas.Bool.{cases_eq, cases_lt, iff_false}
use Rattle.std.proofs.lemmas.List.{length_push, length-take, get_or_append_left, get_or_past, get_or-take}
use Rattle.std.proofs.lemmas.Option.{same_Some, slice_get_within}
use Rattle.std.proofs.Math.Seq.{get_or-append_seam}
use Rattle.lemmas.proofs.Places.{slice_get_push_cases, slice_get_push, slice_get_take, take_slice_get, keeps_push}
use Rattle.facts.specs.declared.contexts.Fact.{Fact}
use Rattle.facts.specs.declared.homes.Key.{Key}
use Rattle.facts.specs.Chains.{Chained, IsNewest, LeadsTo, AreChained, key_of}

-- with one fact more
abbrev pub with_one : Chained → Fact → Chained
with_one c fact = record { by = c.by; facts = c.facts ++ fact ∷ [] }

leads_more : (c : Chained) (fact : Fact) (key number : ℕ) → LeadsTo c key number → LeadsTo (with_one c fact) key number
leads_more c fact key number leads place is =
    let (old, there, same) = leads place is in
    (old, keeps_push c.facts fact place old there, same)

-- the newest of the first so many is so with one more behind them
newest_more : (c : Chained) (fact : Fact) (key bound number : ℕ) → bound ≤ length c.facts → IsNewest c key bound number → IsNewest (with_one c fact) key bound number
newest_more c fact key bound number short old = record {
  within = old.within;
  leads = leads_more c fact key number old.leads;
  newest = λ place other low there same. elim (slice_get_push_cases c.facts fact place other there) [
    | inl before ↦ old.newest place other low before same
    | inr (last, is) ↦ absurd (omega (arith, last, low, short))
  ];
}

-- the newest with another key is so still
newest_other : (c : Chained) (fact : Fact) (key number : ℕ) → key_of c.by fact ≢ key → IsNewest c key (length c.facts) number →
    IsNewest (with_one c fact) key (length (c.facts ++ fact ∷ [])) number
newest_other c fact key number ne old = record {
  within = omega (arith, old.within, length_push c.facts fact);
  leads = leads_more c fact key number old.leads;
  newest = λ place other low there same. elim (slice_get_push_cases c.facts fact place other there) [
    | inl before ↦ old.newest place other (slice_get_within c.facts place other before) before same
    | inr (last, is) ↦ absurd (ne (ap (key_of c.by) is ∙ same))
  ];
}

-- the one more is the newest with its key
newest_new : (c : Chained) (fact : Fact) (key : ℕ) → key_of c.by fact ≡ key → IsNewest (with_one c fact) key (length (c.facts ++ fact ∷ [])) (suc (length c.facts))
newest_new c fact key is = record {
  within = omega (arith, length_push c.facts fact);
  leads = λ place last. (fact, subst (λ n. slice_get (c.facts ++ fact ∷ []) n ≡ Some fact) (omega (arith, last)) (slice_get_push c.facts fact), is);
  newest = λ place other low there same. omega (arith, low, length_push c.facts fact);
}

pub chained_push : (c : Chained) (fact : Fact) (key : ℕ) (newest before newest' before' : List ℕ) → key_of c.by fact ≡ key → length c.facts + 1 < 2 ^ 32 →
    get_or newest' key 0 ≡ suc (length c.facts) → ((i : ℕ) → i ≢ key → get_or newest' i 0 ≡ get_or newest i 0) → before' ≡ before ++ get_or newest key 0 ∷ [] →
    AreChained c newest before → AreChained (with_one c fact) newest' before'
chained_push c fact key newest before newest' before' is few here others pushed old = record {
  few = omega (arith, few, length_push c.facts fact);
  long = ap length pushed ∙ length_push before (get_or newest key 0) ∙ ap (λ n. n + 1) old.long ∙ sym (length_push c.facts fact);
  first = λ k. elim (cases_eq k key) [
    | inl same ↦ rw (same, here) (newest_new c fact key is)
    | inr ne ↦ rw (others k ne) (newest_other c fact k (get_or newest k 0) (λ e. ne (sym e ∙ is)) (old.first k))
  ];
  next = λ place other there. elim (slice_get_push_cases c.facts fact place other there) [
    | inl at ↦
        let short : place < length before = omega (arith, slice_get_within c.facts place other at, old.long) in
        rw (pushed, get_or_append_left before (get_or newest key 0 ∷ []) 0 place short)
        (newest_more c fact (key_of c.by other) place (get_or before place 0) (omega (arith, short, old.long)) (old.next place other at))
    | inr (last, same) ↦
        let seam : get_or before' place 0 ≡ get_or newest key 0 = rw pushed (ap (λ n. get_or (before ++ get_or newest key 0 ∷ []) n 0) (last ∙ sym old.long) ∙ get_or-append_seam before (get_or newest key 0) [] 0) in
        rw (← same, is, seam, last) (newest_more c fact key (length c.facts) (get_or newest key 0) (omega arith) (old.first key))
  ];
}

-- ---- one fewer

newest_fewer : (c : Chained) (len key bound number : ℕ) → bound ≤ len → IsNewest c key bound number → IsNewest (record { by = c.by; facts = take len c.facts }) key bound number
newest_fewer c len key bound number short old = record {
  within = old.within;
  leads = λ place is.
      let (fact, there, same) = old.leads place is in
      (fact, take_slice_get len c.facts place fact (omega (arith, is, old.within, short)) there, same);
  newest = λ place fact low there same. old.newest place fact low (slice_get_take len c.facts place fact there).1 same;
}

-- where the last has another key, the newest is so without it
newest_below : (c : Chained) (len key number : ℕ) (last : Fact) → slice_get c.facts len ≡ Some last → key_of c.by last ≢ key → IsNewest c key (suc len) number → IsNewest c key len number
newest_below c len key number last at ne old = record {
  within = elim (cases_eq number (suc len)) [
    | inl e ↦
        let (fact, there, same) = old.leads len e in
        absurd (ne (ap (key_of c.by) (same_Some last fact (sym at ∙ there)) ∙ same))
    | inr apart ↦ omega (arith, old.within, apart)
  ];
  leads = old.leads;
  newest = λ place fact low. old.newest place fact (omega (arith, low));
}

pub chained_pop : (c : Chained) (len key : ℕ) (last : Fact) (newest before newest' before' : List ℕ) → slice_get c.facts len ≡ Some last → length c.facts ≡ suc len → key_of c.by last ≡ key →
    (key < length newest → get_or newest' key 0 ≡ get_or before len 0) → ((i : ℕ) → i ≢ key → get_or newest' i 0 ≡ get_or newest i 0) → before' ≡ take len before →
    AreChained c newest before → AreChained (record { by = c.by; facts = take len c.facts }) newest' before'
chained_pop c len key last newest before newest' before' at long is here others taken old =
    let short : length (take len c.facts) ≡ len = omega (arith, length-take len c.facts, long) in
    let among : key < length newest = elim (cases_lt key (length newest)) [
      | inl within ↦ within
      | inr past ↦ absurd (omega (arith, get_or_past newest key 0 past, (old.first key).newest len last (omega (arith, long)) at is))
    ] in
    record {
      few = omega (arith, short, long, old.few);
      long = ap length taken ∙ omega (arith, length-take len before, old.long, long, short);
      first = λ k. rw short (elim (cases_eq k key) [
        | inl same ↦ rw (same, here among, ← is) (newest_fewer c len (key_of c.by last) len (get_or before len 0) (omega arith) (old.next len last at))
        | inr ne ↦ rw (others k ne) (newest_fewer c len k len (get_or newest k 0) (omega arith)
            (newest_below c len k (get_or newest k 0) last at (λ e. ne (sym e ∙ is)) (rw long at old.first k)))
      ]);
      next = λ place fact there.
          let (low, was) = slice_get_take len c.facts place fact there in
          rw (taken, get_or-take len before place 0 low) (newest_fewer c len (key_of c.by fact) place (get_or before place 0) (omega (arith, low)) (old.next place fact was));
    }

-- newest facts by a list with the same numbers
pub chained_same : (c : Chained) (newest before newest' : List ℕ) → ((i : ℕ) → get_or newest' i 0 ≡ get_or newest i 0) → AreChained c newest before → AreChained c newest' before
chained_same c newest before newest' same old = record {
  few = old.few;
  long = old.long;
  first = λ key. rw (same key) (old.first key);
  next = old.next;
}

-- what is said not to be is not
pub refused : {P : Type 0} → ((false ≡ true) ↔ P) → P → ⊥
refused said p = iff_false said refl p

pub take_front : {X : Type 0} (xs ys : List X) → take (length xs) (xs ++ ys) ≡ xs
take_front [] ys = refl
take_front (x ∷ xs) ys = ap (λ rest. x ∷ rest) (take_front xs ys)

-- the last fact taken away
pub chained_last : (by : Key) (facts : List Fact) (last : Fact) (key : ℕ) (newest before newest' : List ℕ) (number : ℕ) → key_of by last ≡ key →
    (key < length newest → get_or newest' key 0 ≡ number) → ((i : ℕ) → i ≢ key → get_or newest' i 0 ≡ get_or newest i 0) →
    AreChained (record { by = by; facts = facts ++ last ∷ [] }) newest (before ++ number ∷ []) → AreChained (record { by = by; facts = facts }) newest' before
chained_last by facts last key newest before newest' number is here others old =
    let long : length before ≡ length facts = omega (arith, old.long, length_push facts last, length_push before number) in
    let seam : get_or (before ++ number ∷ []) (length facts) 0 ≡ number = ap (λ n. get_or (before ++ number ∷ []) n 0) (sym long) ∙ get_or-append_seam before number [] 0 in
    let taken : before ≡ take (length facts) (before ++ number ∷ []) = sym (ap (λ n. take n (before ++ number ∷ [])) (sym long) ∙ take_front before (number ∷ [])) in
    subst (λ fs. AreChained (record { by = by; facts = fs }) newest' before) (take_front facts (last ∷ []))
    (chained_pop (record { by = by; facts = facts ++ last ∷ [] }) (length facts) key last newest (before ++ number ∷ []) newest' before
    (slice_get_push facts last) (omega (arith, length_push facts last)) is (λ within. here within ∙ sym seam) others taken old)
