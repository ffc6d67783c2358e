-- Numbers that are put into lists of both kinds of keys.
use Rattle.std.proofs.Common.{◌≡◌, ◌⊎◌, ⊎_elim, ℕ, ◌+◌, ◌<◌, ◌≤◌, true, false, ltb, List, [], ◌∷◌, length, get_or, Option, Some, None, Contains, refl, sym, ap, ap₂, subst, ◌∙◌, inl, inr, arith}
use Rattle.std.proofs.lemmas.Bool.{cases_eq, ltb-false, ltb-true}
use Rattle.std.proofs.lemmas.List.Sorted.{Contains-permutation, IsNonDecreasingBy-insert, IsPermutation-insert, IsPermutation-sym}
use Rattle.std.specs.List.{insert}
use Rattle.std.specs.List.Sorted.{IsPartitionPoint}
use Rattle.lemmas.proofs.Members.{Contains-cons_cases, Contains-first, Contains-later}
use Rattle.normal_forms.specs.declared.forms.Form.{Form}
use Rattle.indexes.specs.declared.keys.Key.{Key}
use Rattle.indexes.specs.declared.keys.Key.TheVariants.{Whole, Partial}
use Rattle.indexes.specs.declared.form_lists.FormLists.{FormLists}
use Rattle.indexes.specs.FormIndex.{at_key, listed_at, AreInOrder, ListsNothing}
use Rattle.indexes.specs.ChangedLists.{changed_at, changed_or, ChangesOne, EndsAt}
use Rattle.indexes.specs.Insertions.{PutsUnder}
use Rattle.indexes.specs.declared.key_lists.KeyLists.{KeyLists}
use Rattle.indexes.specs.Seconds.{rank_at, IsInOrder}
use Rattle.indexes.proofs.Counting.{same_is_key}

-- behind those of places that are not above its own a number stands in order
pub placed : (forms : List Form) (xs : List ℕ) (many number bound : ℕ) → bound ≡ rank_at forms number + 1 → IsInOrder forms xs → many ≤ length xs
    → IsPartitionPoint (λ n. ltb (rank_at forms n) bound ≡ true) (λ n. ltb (rank_at forms n) bound ≡ false) xs many → IsInOrder forms (insert xs many number)
placed forms xs many number bound is order within point =
    IsNonDecreasingBy-insert (rank_at forms) xs many number order within
    (λ k d low.
    let below = ltb-true (rank_at forms (get_or xs k d)) bound (point.0 k d (omega (arith, low, within)) low) in
    omega (arith, below, is))
    (λ k d high low.
    let above = ltb-false (rank_at forms (get_or xs k d)) bound (point.1 k d high low) in
    omega (arith, above, is))

-- what stands in a list with one number more stood there before, or is the number
pub put_cases : (xs : List ℕ) (many number m : ℕ) → Contains (insert xs many number) m → Contains xs m ⊎ (number ≡ m)
put_cases xs many number m c = ⊎_elim (λ e. inr e) (λ there. inl there)
    (Contains-cons_cases number m xs (Contains-permutation (insert xs many number) (number ∷ xs) m (IsPermutation-sym (number ∷ xs) (insert xs many number) (IsPermutation-insert xs many number)) c))

pub put_there : (xs : List ℕ) (many number m : ℕ) → Contains xs m → Contains (insert xs many number) m
put_there xs many number m c = Contains-permutation (number ∷ xs) (insert xs many number) m (IsPermutation-insert xs many number) (Contains-later number m xs c)

pub put_itself : (xs : List ℕ) (many number : ℕ) → Contains (insert xs many number) number
put_itself xs many number = Contains-permutation (number ∷ xs) (insert xs many number) number (IsPermutation-insert xs many number) (Contains-first number xs)

-- whether two keys are one
pub same_key : (j k : Key) → (j ≡ k) ⊎ (j ≡ k → ⊥)
same_key (Whole i) (Whole j) = ⊎_elim (λ e. inl (ap Whole e)) (λ ne. inr (λ e. ne (cc))) (cases_eq i j)
same_key (Whole i) (Partial j) = inr (λ e. cc)
same_key (Partial i) (Whole j) = inr (λ e. cc)
same_key (Partial i) (Partial j) = ⊎_elim (λ e. inl (ap Partial e)) (λ ne. inr (λ e. ne (cc))) (cases_eq i j)

-- what holds of the list that has the number, and of the others as they were, holds of each
pub each_list : (P : List ℕ → Type 0) (old new : FormLists) (key : Key) (many number : ℕ) → PutsUnder old new key many number → P (insert (listed_at old key) many number) → ((k : Key) → P (listed_at old k)) → (k : Key) → P (listed_at new k)
each_list P old new key many number puts here were k = ⊎_elim
    (λ e. subst (λ (j : Key). P (listed_at new j)) (sym e) (subst P (sym puts.here) here))
    (λ ne. subst P (sym (puts.elsewhere k ne)) (were k))
    (same_key k key)

pub put_ordered : (forms : List Form) (old new : FormLists) (key : Key) (many number : ℕ) → AreInOrder forms (listed_at old) → IsInOrder forms (insert (listed_at old key) many number) → PutsUnder old new key many number → AreInOrder forms (listed_at new)
put_ordered forms old new key many number order here puts = each_list (IsInOrder forms) old new key many number puts here order

-- ---- the list of a key that is changed

module _ (old new : FormLists) (k : Key) (many number : ℕ) (shared : new.shared.value ≡ old.shared.value) (within : many ≤ length (listed_at old k)) where
  changed_under : (list : List ℕ) → listed_at old k ≡ list → ChangesOne old.changed.items new.changed.items k (insert list many number) → PutsUnder old new k many number
  changed_under list is changes = record {
    within = within;
    here = rw (changes.here, is) refl;
    elsewhere = λ j ne. ap₂ (λ (o : Option (List ℕ)) (l : KeyLists). changed_or o (at_key l j)) (changes.elsewhere j ne) shared;
    shared = shared;
  }

  pub put_changed : (items : List ℕ) → changed_at old.changed.items k ≡ Some items → ((list : List ℕ) → changed_at old.changed.items k ≡ Some list → ChangesOne old.changed.items new.changed.items k (insert list many number)) → PutsUnder old new k many number
  put_changed items at changes = changed_under items (rw (at) refl) (changes items at)

  pub put_begun : (numbers : List ℕ) → changed_at old.changed.items k ≡ None → numbers ≡ at_key old.shared.value k → ChangesOne old.changed.items new.changed.items k (insert numbers many number) → PutsUnder old new k many number
  put_begun numbers none is changes = changed_under numbers (rw (none) (sym is)) changes

-- past the end no whole key has a number
pub none_past : (lists : FormLists) (number : ℕ) → lists.end ≤ number → listed_at lists (Whole number) ≡ []
none_past lists number low =
    let none = lists.ends number low in
    ap (λ (o : Option (List ℕ)). changed_or o (at_key lists.shared.value (Whole number))) none.1 ∙ none.0

-- a key that is put does not stand past the end, and the others are as they were
pub ends_still : (lists : KeyLists) (old new : List (Key × List ℕ)) (key : Key) (end above after : ℕ) → EndsAt end lists old → ((j : Key) → ¬ (j ≡ key) → changed_at new j ≡ changed_at old j)
    → ((number : ℕ) → key ≡ Whole number → number < above) → end ≤ after → above ≤ after → EndsAt after lists new
ends_still lists old new key end above after before elsewhere low fewer lower number past =
    let none = before number (omega (arith, fewer, past)) in
    (none.0, elsewhere (Whole number) (λ e. let high = low number (sym e) in absurd (omega (arith, high, lower, past))) ∙ none.1)

-- where no list has a number, none has changed
pub none_changed : (lists : FormLists) → ListsNothing (listed_at lists) → lists.changed.items ≡ []
none_changed lists nothing = go lists.changed.items refl
  where
    go : (cs : List (Key × List ℕ)) → lists.changed.items ≡ cs → lists.changed.items ≡ []
    go [] e = e
    go (c ∷ cs) e =
        let at : changed_at lists.changed.items c.0 ≡ Some c.1 = ap (λ (ds : List (Key × List ℕ)). changed_at ds c.0) e ∙ rw (same_is_key c.0 c.0 refl) refl in
        let empty : c.1 ≡ [] = sym (ap (λ (o : Option (List ℕ)). changed_or o (at_key lists.shared.value c.0)) at) ∙ nothing c.0 in
        absurd (omega (arith, lists.used c (subst (λ (ds : List (Key × List ℕ)). Contains ds c) (sym e) (Contains-first c cs)), ap length empty))
