-- A number that is queued, and one that is taken from the list.
use Rattle.std.proofs.Common.{◌≡◌, ◌↔◌, ℕ, ◌+◌, ◌<◌, ◌≤◌, inl, inr, ⊎_elim, Bool, true, false, true≢false, not, eqb, get_or, if◌then◌else◌, List, [], ◌∷◌, ◌++◌, length, take, drop, slice_get, Option, Some, None, IfNone, IfSome, Contains, refl, sym, ap, ◌∙◌, subst, arith, length-append}
use Rattle.std.proofs.lemmas.Bool.Decides.{Decides-eqb, eqb_tells, nat_tests}
use Rattle.std.proofs.lemmas.Bool.{cases_lt, ne_eqb}
use Rattle.std.proofs.lemmas.Option.{slice_get_within, slice_get-get_or, get_or_from_slice_get, none-some}
use Rattle.std.proofs.lemmas.Map.Keys.{IsDistinct-IsPermutation, IsDistinct-from_apart, apart_from_distinct}
use Rattle.std.proofs.lemmas.Map.Made.{is_member-Decides, length-le_from_is_member}
use Rattle.std.specs.Cmp.{IsEquivalence}
use Rattle.std.specs.List.{IsDistinct}
use Rattle.std.proofs.lemmas.List.{get_or_append_left, nil_from_length, take-append-le, take-append-drop, take_all, length-take}
use Rattle.std.proofs.lemmas.List.Sorted.{Contains-permutation, IsPermutation-append_left, IsPermutation-filter_both, IsPermutation-sym, length_permutation}
use Rattle.std.specs.List.Sorted.{IsPermutation}
use Rattle.std.proofs.lemmas.List.Elements.{Contains-append_left, Contains-push, Contains-push_cases}
use Rattle.work_list.specs.declared.item.Item.{Item}
use Rattle.work_list.specs.Bag.{is_item, often, Adds, HaveSameItems}
use Rattle.normal_forms.proofs.Filters.{passes}
use Rattle.saturate.specs.Flags.{asked, is_flagged, is_kept, kept, AreThoseFlagged}
use Rattle.axioms.specs.WellFormedness.{AreDistinct}
use Rattle.axioms.proofs.Growing.{AreDistinct-push}
use Rattle.facts.specs.declared.contexts.Fact.{Fact}
use Rattle.inference.specs.Derivations.{Keeps}
use Rattle.saturate.specs.Turns.{context_number, item, AreAmong, IsQueue, HasTurn, IsServedOnce, NameTheirContexts, StillAdds}
use Rattle.inference.proofs.Lists.{one_value, Contains-from_slice_get, slice_get-from_Contains, slice_get_there, slice_get_push, slice_get_push_cases, slice_get_take, keeps_push}

same_item : (n c : ℕ) → is_item (item n c) (item n c) ≡ true
same_item n c = grind (arith, nat_tests)

other_item : (x y : Item) → (x.fact ≡ y.fact → ⊥) → is_item x y ≡ false
other_item x y apart = grind (arith, nat_tests)

is_same : (x y : Item) → is_item x y ≡ true → (x.fact ≡ y.fact) × (x.context ≡ y.context)
is_same x y e = grind (arith, nat_tests)

-- how often an item is in the list with one more
adds_one : {old new : List Item} {x : Item} → Adds x old new → (y : Item) → is_item y x ≡ true → often new y ≡ often old y + 1
adds_one {old} {x = x} s y e = s.each y ∙ ap (λ t. often old y + (if t then 1 else 0)) e

adds_none : {old new : List Item} {x : Item} → Adds x old new → (y : Item) → is_item y x ≡ false → often new y ≡ often old y
adds_none {old} {x = x} s y e = omega (arith, s.each y ∙ ap (λ t. often old y + (if t then 1 else 0)) e)

-- the next number waits
pub queued_more : {old new : List Item} {queued served c : ℕ} {taken : List ℕ} → IsQueue old queued taken served → Adds (item queued c) old new → IsQueue new (queued + 1) taken served
queued_more {old} {new} {queued} {served} {c} {taken} q s = record {
  contexts = q.contexts ++ c ∷ [];
  long = omega (arith, length-append q.contexts (c ∷ []), q.long);
  each = λ n d at. ⊎_elim
      (λ before.
      let same : often new (item n d) ≡ often old (item n d) = others n d (omega (arith, slice_get_within q.contexts n d before, q.long)) in
      ⊎_elim (λ v. inl (same ∙ v.0, v.1)) (λ v. inr (same ∙ v.0, v.1)) (q.each n d before))
      (λ here.
      let last : n ≡ queued = here.0 ∙ q.long in
      let one : often new (item n d) ≡ often old (item n d) + 1 = adds_one s (item n d) (subst (λ (m : ℕ). is_item (item n d) (item m c) ≡ true) last (subst (λ (b : ℕ). is_item (item n d) (item n b) ≡ true) (sym here.1) (same_item n d))) in
      inl (omega (arith, one, none n d last), λ t. omega (arith, q.within n t, last)))
      (slice_get_push_cases q.contexts c n d at);
  known = λ x lt. known x lt (is_item x (item queued c)) refl;
  within = λ n t. omega (arith, q.within n t);
  distinct = q.distinct;
  tally = omega (arith, q.tally, s.total);
  low = q.low;
}
  where
    others : (n d : ℕ) → n < queued → often new (item n d) ≡ often old (item n d)
    others n d low = adds_none s (item n d) (other_item (item n d) (item queued c) (λ e. omega (arith, e, low)))

    none : (n d : ℕ) → n ≡ queued → often old (item n d) ≡ 0
    none n d last = ⊎_elim (λ w. omega (arith, w.1)) (λ w. absurd (omega (arith, slice_get_within q.contexts n d (q.known (item n d) (omega (arith, w.1))), q.long, last))) (eqb_tells (often old (item n d)) 0)

    known : (x : Item) → 0 < often new x → (b : Bool) → is_item x (item queued c) ≡ b → slice_get (q.contexts ++ c ∷ []) x.fact ≡ Some x.context
    known x lt true e =
        let w = is_same x (item queued c) e in
        rw (w.0, w.1, ← q.long) (slice_get_push q.contexts c)
    known x lt false e = keeps_push q.contexts c x.fact x.context (q.known x (omega (arith, lt, adds_none s x e)))

-- one that waits in the list is taken
module _ {old new : List Item} {queued served : ℕ} {taken : List ℕ} {x : Item} (q : IsQueue old queued taken served) (s : Adds x new old) where
  waits : slice_get q.contexts x.fact ≡ Some x.context
  waits = q.known x (omega (arith, adds_one s x (same_item x.fact x.context)))

  pub fresh : (x.fact < queued) × (Contains taken x.fact → ⊥)
  fresh = (
    omega (arith, slice_get_within q.contexts x.fact x.context waits, q.long),
    ⊎_elim (λ w. w.1) (λ w. absurd (omega (arith, w.0, adds_one s x (same_item x.fact x.context)))) (q.each x.fact x.context waits),
  )

  pub taken_one : length taken ≡ served → IsQueue new queued (taken ++ x.fact ∷ []) served
  taken_one all = record {
    contexts = q.contexts;
    long = q.long;
    each = λ n c at. ⊎_elim
        (λ w. inr (here n c at w.1, subst (λ (m : ℕ). Contains (taken ++ x.fact ∷ []) m) (sym w.1) (Contains-push taken x.fact)))
        (λ w.
        let same : often old (item n c) ≡ often new (item n c) = adds_none s (item n c) (other_item (item n c) x w.1) in
        ⊎_elim
        (λ v. inl (sym same ∙ v.0, λ t. ⊎_elim v.1 (λ e. w.1 (sym e)) (Contains-push_cases taken x.fact n t)))
        (λ v. inr (sym same ∙ v.0, Contains-append_left taken (x.fact ∷ []) n v.1))
        (q.each n c at))
        (eqb_tells n x.fact);
    known = λ y lt. q.known y (omega (arith, s.each y, lt));
    within = λ n t. ⊎_elim (λ before. q.within n before) (λ e. omega (arith, fresh.0, e)) (Contains-push_cases taken x.fact n t);
    distinct = AreDistinct-push taken x.fact q.distinct fresh.1;
    tally = omega (arith, q.tally, s.total, length-append taken (x.fact ∷ []));
    low = omega (arith, all, length-append taken (x.fact ∷ []));
  }
    where
      here : (n c : ℕ) → slice_get q.contexts n ≡ Some c → n ≡ x.fact → often new (item n c) ≡ 0
      here n c at e =
          let same : x.context ≡ c = one_value _ _ _ waits (subst (λ (m : ℕ). slice_get q.contexts m ≡ Some c) e at) in
          let one : often old (item n c) ≡ often new (item n c) + 1 = adds_one s (item n c) (subst (λ (m : ℕ). is_item (item n c) (item m x.context) ≡ true) e (subst (λ (b : ℕ). is_item (item n c) (item n b) ≡ true) (sym same) (same_item n c))) in
          ⊎_elim (λ w. omega (arith, w.0, one)) (λ w. omega (arith, w.0, one)) (q.each n c at)

-- in an empty list there is no item
nothing : (waiting : List Item) → length waiting ≡ 0 → (x : Item) → often waiting x ≡ 0
nothing [] none x = refl
nothing (y ∷ ys) none x = absurd (omega (arith, none))

-- nothing waits, so all were taken
pub all_taken : {waiting : List Item} {queued served : ℕ} {taken : List ℕ} → IsQueue waiting queued taken served → length waiting ≡ 0 → (n : ℕ) → n < queued → Contains taken n
all_taken {waiting = waiting} q empty n low =
    let c = slice_get_there q.contexts n (omega (arith, low, q.long)) in
    ⊎_elim (λ w. absurd (omega (arith, w.0, nothing waiting empty (item n c.0)))) (λ w. w.1) (q.each n c.0 c.1)

-- where no number is in hand, those that were taken are those that were served
pub idle : {waiting : List Item} {queued served : ℕ} {taken : List ℕ} → IsQueue waiting queued taken served → slice_get taken served ≡ None → length taken ≡ served
idle {served = served} {taken = taken} q none = ⊎_elim
    (λ w. sym w.1)
    (λ w. let there = slice_get_there taken served (omega (arith, q.low, w.1)) in absurd (none-some there.0 (sym none ∙ there.1)))
    (eqb_tells served (length taken))

pub in_hand : {waiting : List Item} {queued served : ℕ} {taken : List ℕ} → IsQueue waiting queued taken served → (n : ℕ) → slice_get taken served ≡ Some n → (n < queued) × (length (take served taken) < queued)
in_hand {queued = queued} {served = served} {taken = taken} q n at =
    let low : served < length taken = slice_get_within taken served n at in
    (q.within n (Contains-from_slice_get taken served n at), simp length-take (omega (arith, q.tally)))

pub nobody_waits : {waiting : List Item} {queued served : ℕ} {taken : List ℕ} → IsQueue waiting queued taken served → length waiting ≡ 0 → slice_get taken served ≡ None → HasTurn queued (take served taken) (slice_get taken served)
nobody_waits {queued = queued} {served = served} {taken = taken} q empty none =
    let long : length taken ≤ served = omega (arith, idle q none) in
    let whole : take served taken ≡ taken = take_all served taken long in
    record {
      some = λ n e. absurd (none-some n (sym none ∙ e));
      none = λ _. (ap length whole ∙ omega (arith, q.tally, empty), λ n low. rw whole (all_taken q empty n low));
    }

pub just_taken : {waiting : List Item} {queued served : ℕ} (taken : List ℕ) (x : ℕ) → IsQueue waiting queued (taken ++ x ∷ []) served → length taken ≡ served → HasTurn queued (take served taken) (slice_get (taken ++ x ∷ []) served)
just_taken {queued = queued} {served = served} taken x q all =
    let at : slice_get (taken ++ x ∷ []) served ≡ Some x = rw (← all) (slice_get_push taken x) in
    let short : served ≤ length taken = omega (arith, all) in
    record {
      some = λ n e. let w = in_hand q n e in (w.0, rw (← take-append-le served taken (x ∷ []) short) w.1);
      none = λ e. absurd (none-some x (sym e ∙ at));
    }

-- what was served was queued
pub few_served : {waiting : List Item} {queued served : ℕ} {taken : List ℕ} → IsQueue waiting queued taken served → length (take served taken) ≤ queued
few_served {queued = queued} {served = served} {taken = taken} q = simp length-take (omega (arith, q.tally))

-- as many were served as were queued, so nothing waits
pub all_served : {waiting : List Item} {queued served : ℕ} {taken : List ℕ} → IsQueue waiting queued taken served → queued ≤ length (take served taken) → (n : ℕ) → n < queued → Contains (take served taken) n
all_served {waiting = waiting} {queued = queued} {served = served} {taken = taken} q most n low =
    let few : length (take served taken) ≤ served = simp length-take (omega arith) in
    let long : length taken ≤ served = omega (arith, q.tally, few) in
    let whole : take served taken ≡ taken = take_all served taken long in
    let none : length waiting ≡ 0 = omega (arith, q.tally, q.low, few) in
    rw whole (all_taken q none n low)

-- so the list of work is empty
pub none_waits : {waiting : List Item} {queued served : ℕ} {taken : List ℕ} → IsQueue waiting queued taken served → queued ≤ length (take served taken) → waiting ≡ []
none_waits {waiting = waiting} {served = served} {taken = taken} q most =
    let few : length (take served taken) ≤ served = simp length-take (omega arith) in
    nil_from_length waiting (omega (arith, most, q.tally, q.low, few))

-- ---- no number was taken twice

one_equality : IsEquivalence eqb
one_equality = record {
  refl = λ x. grind (arith, nat_tests);
  symm = λ x y. grind (arith, nat_tests);
  congr = λ x y z e. grind (arith, nat_tests);
}

-- a test finds no number twice
pub apart_by_test : (xs : List ℕ) → AreDistinct xs → IsDistinct eqb xs
apart_by_test xs distinct = IsDistinct-from_apart eqb xs (λ i j d low within. ne_eqb (get_or xs i d) (get_or xs j d) (λ e. absurd (different i j d low within e)))
  where
    different : (i j d : ℕ) → i < j → j < length xs → get_or xs i d ≡ get_or xs j d → ⊥
    different i j d low within e =
        let one : i ≡ j = distinct i j (get_or xs j d) (slice_get-get_or xs i d (omega (arith, low, within)) ∙ ap Some e) (slice_get-get_or xs j d within) in
        absurd (omega (arith, one, low))

-- different numbers of a list are at most as many as it has
pub at_most_as_many : (xs ys : List ℕ) → AreDistinct xs → ((n : ℕ) → Contains xs n → Contains ys n) → length xs ≤ length ys
at_most_as_many xs ys distinct each =
    length-le_from_is_member one_equality xs ys (apart_by_test xs distinct)
    (λ n there. (is_member-Decides Decides-eqb ys n).1 (each n ((is_member-Decides Decides-eqb xs n).0 there)))

-- two lists of the same different numbers are as long
pub as_many : (xs ys : List ℕ) → AreDistinct xs → AreDistinct ys → ((n : ℕ) → Contains xs n ↔ Contains ys n) → length xs ≡ length ys
as_many xs ys first second same = omega (arith, at_most_as_many xs ys first (λ n. (same n).0), at_most_as_many ys xs second (λ n. (same n).1))

same_place : (xs : List ℕ) → IsDistinct eqb xs → (m n x : ℕ) → m < n → slice_get xs m ≡ Some x → slice_get xs n ≡ Some x → ⊥
same_place xs distinct m n x low a b =
    let apart = apart_from_distinct eqb xs m n x distinct low (slice_get_within xs n x b) in
    let same : get_or xs m x ≡ get_or xs n x = get_or_from_slice_get xs m x x a ∙ sym (get_or_from_slice_get xs n x x b) in
    ⊎_elim (λ w. true≢false (sym w.0 ∙ apart)) (λ w. w.1 same) (eqb_tells (get_or xs m x) (get_or xs n x))

distinct_moved : (xs ys : List ℕ) → IsPermutation xs ys → AreDistinct xs → AreDistinct ys
distinct_moved xs ys p distinct m n x a b =
    let after = IsDistinct-IsPermutation eqb (λ i j. grind (arith, nat_tests)) xs ys p (apart_by_test xs distinct) in
    ⊎_elim (λ low. absurd (same_place ys after m n x low a b))
    (λ high. ⊎_elim (λ w. w.1) (λ w. absurd (same_place ys after n m x (omega (arith, high, w.1)) b a)) (eqb_tells m n))
    (cases_lt m n)

-- so no number was served twice, and the one in hand was not served
pub served_once : {waiting : List Item} {queued served : ℕ} {taken : List ℕ} → IsQueue waiting queued taken served → IsServedOnce (record { queued = queued; waiting = waiting; served = take served taken; hand = slice_get taken served })
served_once {served = served} {taken = taken} q = record {
  distinct = λ i j x a b. q.distinct i j x (slice_get_take served taken i x a).1 (slice_get_take served taken j x b).1;
  fresh = λ n at c.
      let there = slice_get-from_Contains (take served taken) n c in
      let before = slice_get_take served taken there.0 n there.1 in
      absurd (omega (arith, before.0, q.distinct there.0 served n before.1 at));
}

-- the numbers that were taken change places
pub moved : {waiting : List Item} {queued served : ℕ} {taken : List ℕ} (moves : List ℕ) (served_now : ℕ) → IsQueue waiting queued taken served → IsPermutation taken moves → served_now ≤ length moves → IsQueue waiting queued moves served_now
moved {taken = taken} moves served_now q p low = record {
  contexts = q.contexts;
  long = q.long;
  each = λ n c at. ⊎_elim
      (λ w. inl (w.0, λ t. w.1 (Contains-permutation moves taken n (IsPermutation-sym taken moves p) t)))
      (λ w. inr (w.0, Contains-permutation taken moves n p w.1))
      (q.each n c at);
  known = q.known;
  within = λ n t. q.within n (Contains-permutation moves taken n (IsPermutation-sym taken moves p) t);
  distinct = distinct_moved taken moves p q.distinct;
  tally = omega (arith, q.tally, length_permutation taken moves p);
  low = low;
}

pub not_not : (b : Bool) → b ≡ not (not b)
not_not true = refl
not_not false = refl

-- those that are kept, those that are not, and the rest
pub parted : (flags : List Bool) (served : ℕ) (taken : List ℕ) → IsPermutation taken (kept flags (take served taken) ++ asked flags (take served taken) ++ drop served taken)
parted flags served taken =
    let all : take served taken ++ drop served taken ≡ taken = take-append-drop served taken in
    let front : List ℕ = take served taken in
    subst (λ (xs : List ℕ). IsPermutation xs (kept flags front ++ asked flags front ++ drop served taken)) all
    (IsPermutation-append_left (drop served taken) front (kept flags front ++ asked flags front) (IsPermutation-filter_both (is_kept flags) (is_flagged flags) (λ x. not_not (is_flagged flags x)) front))

pub front_kept : (flags : List Bool) (served : ℕ) (taken : List ℕ) → take (length (kept flags (take served taken))) (kept flags (take served taken) ++ asked flags (take served taken) ++ drop served taken) ≡ kept flags (take served taken)
front_kept flags served taken =
    let xs : List ℕ = kept flags (take served taken) in
    let ys : List ℕ = asked flags (take served taken) in
    let zs : List ℕ = drop served taken in
    take-append-le (length xs) (xs ++ ys) zs (omega (arith, length-append xs ys)) ∙ take-append-le (length xs) xs ys (omega arith) ∙ take_all (length xs) xs (omega arith)

-- as many as before
pub still_long : (flags : List Bool) (served : ℕ) (taken : List ℕ) → length (kept flags (take served taken) ++ asked flags (take served taken) ++ drop served taken) ≡ length taken
still_long flags served taken = length_permutation taken _ (parted flags served taken)

pub still_there : (xs ys : List ℕ) (n x : ℕ) → slice_get xs n ≡ Some x → slice_get (xs ++ ys) n ≡ Some x
still_there xs ys n x at =
    let low : n < length xs = slice_get_within xs n x at in
    slice_get-get_or (xs ++ ys) n x (omega (arith, low, length-append xs ys)) ∙ ap Some (get_or_append_left xs ys x n low ∙ get_or_from_slice_get xs n x x at)

pub asked_distinct : (flags : List Bool) (xs : List ℕ) → AreDistinct xs → AreDistinct (asked flags xs)
asked_distinct flags xs distinct m n x a b =
    let moves : List ℕ = asked flags xs ++ kept flags xs in
    distinct_moved xs moves (IsPermutation-filter_both (is_flagged flags) (is_kept flags) (λ _. refl) xs) distinct m n x
    (still_there (asked flags xs) (kept flags xs) m x a)
    (still_there (asked flags xs) (kept flags xs) n x b)

pub kept_distinct : (flags : List Bool) (xs : List ℕ) → AreDistinct xs → AreDistinct (kept flags xs)
kept_distinct flags xs distinct m n x a b =
    let moves : List ℕ = kept flags xs ++ asked flags xs in
    distinct_moved xs moves (IsPermutation-filter_both (is_kept flags) (is_flagged flags) (λ i. not_not (is_flagged flags i)) xs) distinct m n x
    (still_there (kept flags xs) (asked flags xs) m x a)
    (still_there (kept flags xs) (asked flags xs) n x b)

-- of different numbers no more are flagged than flags were given
pub few_asked : (flags : List Bool) (numbers xs : List ℕ) → AreThoseFlagged flags numbers → AreDistinct xs → length (asked flags xs) ≤ length numbers
few_asked flags numbers xs those distinct = at_most_as_many (asked flags xs) numbers (asked_distinct flags xs distinct) (λ n there. (those n).0 (passes (is_flagged flags) xs n there))

-- ---- what waits names its fact's context

-- one more that does
pub named_more : (facts : List Fact) (old new : List Item) (n : ℕ) (f : Fact) → NameTheirContexts facts old → slice_get facts n ≡ Some f → Adds (item n (context_number f)) old new → NameTheirContexts facts new
named_more facts old new n f named at s x lt = go (is_item x (item n (context_number f))) refl
  where
    go : (b : Bool) → is_item x (item n (context_number f)) ≡ b → (g : Fact) × (slice_get facts x.fact ≡ Some g) × (x.context ≡ context_number g)
    go true e =
        let same = is_same x (item n (context_number f)) e in
        (f, subst (λ (m : ℕ). slice_get facts m ≡ Some f) (sym same.0) at, same.1)
    go false e = named x (omega (arith, lt, adds_none s x e))

-- where facts are added
pub named_still : (old new : List Fact) (waiting : List Item) → Keeps old new → NameTheirContexts old waiting → NameTheirContexts new waiting
named_still old new waiting keeps named x lt = (let w = named x lt in (w.0, keeps x.fact w.0 w.1, w.2))

pub among_one_less : (old new : List Item) (x : Item) → Adds x new old → AreAmong new old
among_one_less old new x s y lt = omega (arith, s.each y, lt)

pub none_named : (facts : List Fact) (waiting : List Item) → waiting ≡ [] → NameTheirContexts facts waiting
none_named facts waiting none x lt = absurd (omega (arith, lt, nothing waiting (ap length none) x))

-- ---- an item comes before another

pub still : {old new : List Item} (x : Item) → HaveSameItems old new → StillAdds x old x new
still x same all adds = record { each = λ y. omega (arith, adds.each y, same.each y); total = omega (arith, adds.total, same.total) }

-- likewise where the same items waited before
pub led_some : (other : Option Item) {old led : List Item} (new : List Item) (x : Item) → HaveSameItems old led → IfSome other (λ y. StillAdds x led y new) → IfSome other (λ y. StillAdds x old y new)
led_some None new x same h = tt
led_some (Some y) new x same h = λ all adds. h all (still x same all adds)

pub led_none : (other : Option Item) {old led : List Item} (new : List Item) (x : Item) → HaveSameItems old led → IfNone other (StillAdds x led x new) → IfNone other (StillAdds x old x new)
led_none None new x same h = λ all adds. h all (still x same all adds)
led_none (Some y) new x same h = tt

-- the number of an item that waited is that of a fact
pub names_fact : (facts : List Fact) {waiting rest : List Item} {x : Item} → NameTheirContexts facts waiting → Adds x rest waiting → x.fact < length facts
names_fact facts {x = x} named adds =
    let w = named x (omega (arith, adds_one adds x (same_item x.fact x.context))) in
    slice_get_within facts x.fact w.0 w.1
