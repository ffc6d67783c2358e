-- Lists of keys that have changed.
use Rattle.std.proofs.Common.{◌≡◌, inl, inr, ℕ, zero, suc, ◌+◌, ◌<◌, ◌≤◌, Bool, true, false, List, [], ◌∷◌, ◌++◌, length, get_or, slice_get, Option, Some, None, Result, Ok, Err, OnOk, OnErr, Contains, refl, sym, ap, subst, ◌∙◌, arith}
use Rattle.std.specs.Prelude.{slice_set, if◌then◌else◌}
use Rattle.std.specs.List.{insert}
use Rattle.std.proofs.lemmas.Bool.{cases_lt}
use Rattle.std.proofs.lemmas.List.{set-get_or}
use Rattle.std.proofs.lemmas.List.Edits.{length-insert}
use Rattle.std.specs.declared.alloc.AllocError.{AllocError}
use Rattle.std.proofs.lemmas.List.Elements.{Contains-push_cases}
use Rattle.std.proofs.lemmas.Option.{none-some, same_Some, slice_get-get_or, slice_get_within}
use Rattle.lemmas.proofs.Members.{Contains-cons_cases, Contains-first, Contains-later}
use Rattle.indexes.specs.declared.keys.Key.{Key}
use Rattle.indexes.specs.ChangedLists.{changed_at, AreUsed, ChangesOne, HasKeyFirst}
use Rattle.indexes.specs.FormsUnderKeys.{is_key}
use Rattle.indexes.proofs.Counting.{other_key, same_is_key}

module _ {T : Type 0} where
  -- none of the lists is of the key
  abbrev pub HaveNot : List (Key × List T) → Key → Type 0
  HaveNot changed k = (i : ℕ) (c : Key × List T) → slice_get changed i ≡ Some c → ¬ (c.0 ≡ k)

  -- the first list of the key is its list
  pub first_is : (changed : List (Key × List T)) (k : Key) (place : ℕ) (items : List T) → slice_get changed place ≡ Some (k, items)
      → ((i : ℕ) (c : Key × List T) → i < place → slice_get changed i ≡ Some c → ¬ (c.0 ≡ k)) → changed_at changed k ≡ Some items
  first_is [] k place items at first = absurd (none-some (k, items) at)
  first_is (c ∷ cs) k zero items at first =
      let e = same_Some c (k, items) at in
      rw (e) (rw (same_is_key k k refl) refl)
  first_is (c ∷ cs) k (suc place) items at first =
      rw (other_key k c.0 (λ e. first 0 c (omega arith) refl (sym e))) (first_is cs k place items at (λ i d l. first (suc i) d (omega (arith, l))))

  -- where none before a place is of the key, and neither is that at it, none up to it is
  pub still_none : (changed : List (Key × List T)) (k : Key) (place : ℕ) (d : Key × List T) → place < length changed → d ≡ get_or changed place d → ¬ (d.0 ≡ k)
      → ((i : ℕ) (c : Key × List T) → i < place → slice_get changed i ≡ Some c → ¬ (c.0 ≡ k)) → (i : ℕ) (c : Key × List T) → i < place + 1 → slice_get changed i ≡ Some c → ¬ (c.0 ≡ k)
  still_none changed k place d low at other before i c l there = elim (cases_lt i place) [
    | inl less ↦ before i c less there
    | inr high ↦ λ e. let is : i ≡ place = omega (arith, l, high) in other (ap (λ (x : Key × List T). x.0) (at ∙ same_Some (get_or changed place d) c (sym (slice_get-get_or changed place d low) ∙ ap (slice_get changed) (sym is) ∙ there)) ∙ e)
  ]

  pub none_is : (changed : List (Key × List T)) (k : Key) → HaveNot changed k → changed_at changed k ≡ None
  none_is [] k have_not = refl
  none_is (c ∷ cs) k have_not = rw (other_key k c.0 (λ e. have_not 0 c refl (sym e))) (none_is cs k (λ i d. have_not (suc i) d))

  -- a list that is put in place of that of its key
  pub set_here : (changed : List (Key × List T)) (k : Key) (place : ℕ) (items list : List T) → slice_get changed place ≡ Some (k, items)
      → ((i : ℕ) (c : Key × List T) → i < place → slice_get changed i ≡ Some c → ¬ (c.0 ≡ k)) → changed_at (slice_set changed place (k, list)) k ≡ Some list
  set_here [] k place items list at first = absurd (none-some (k, items) at)
  set_here (c ∷ cs) k zero items list at first = rw (same_is_key k k refl) refl
  set_here (c ∷ cs) k (suc place) items list at first =
      rw (other_key k c.0 (λ e. first 0 c (omega arith) refl (sym e))) (set_here cs k place items list at (λ i d l. first (suc i) d (omega (arith, l))))

  pub set_elsewhere : (changed : List (Key × List T)) (k j : Key) (place : ℕ) (items list : List T) → slice_get changed place ≡ Some (k, items) → ¬ (j ≡ k) → changed_at (slice_set changed place (k, list)) j ≡ changed_at changed j
  set_elsewhere [] k j place items list at ne = absurd (none-some (k, items) at)
  set_elsewhere (c ∷ cs) k j zero items list at ne =
      let e = same_Some c (k, items) at in
      rw (e) (rw (other_key j k ne) refl)
  set_elsewhere (c ∷ cs) k j (suc place) items list at ne = ap (λ (rest : Option (List T)). if is_key j (Some c.0) then Some c.1 else rest) (set_elsewhere cs k j place items list at ne)

  pub set_used : (changed : List (Key × List T)) (place : ℕ) (d : Key × List T) → 0 < length d.1 → AreUsed changed → AreUsed (slice_set changed place d)
  set_used [] place d long used e there = used e there
  set_used (c ∷ cs) zero d long used e there = elim (Contains-cons_cases d e cs there) [ inl is ↦ subst (λ (x : Key × List T). 0 < length x.1) is long | inr rest ↦ used e (Contains-later c e cs rest) ]
  set_used (c ∷ cs) (suc place) d long used e there = elim (Contains-cons_cases c e (slice_set cs place d) there) [
    | inl is ↦ subst (λ (x : Key × List T). 0 < length x.1) is (used c (Contains-first c cs))
    | inr rest ↦ set_used cs place d long (λ x w. used x (Contains-later c x cs w)) e rest
  ]

  -- one list is changed again
  pub set_one : (changed new : List (Key × List T)) (k : Key) (place : ℕ) (list : List T) → HasKeyFirst changed k place → new ≡ slice_set changed place (k, list) → ChangesOne changed new k list
  set_one changed new k place list has is = rw (is) (record {
    here = set_here changed k place has.items list has.there has.first;
    elsewhere = λ j ne. set_elsewhere changed k j place has.items list has.there ne;
  })

  chosen : (b : Bool) (first : List T) (rest more : Option (List T)) (list : List T) → (if b then Some first else rest) ≡ None → (rest ≡ None → more ≡ Some list) → (if b then Some first else more) ≡ Some list
  chosen true first rest more list none so = absurd (none-some first (sym none))
  chosen false first rest more list none so = so none

  push_here : (changed : List (Key × List T)) (k : Key) (list : List T) → changed_at changed k ≡ None → changed_at (changed ++ (k, list) ∷ []) k ≡ Some list
  push_here [] k list none = rw (same_is_key k k refl) refl
  push_here (c ∷ cs) k list none = chosen (is_key k (Some c.0)) c.1 (changed_at cs k) (changed_at (cs ++ (k, list) ∷ []) k) list none (push_here cs k list)

  push_elsewhere : (changed : List (Key × List T)) (k j : Key) (list : List T) → ¬ (j ≡ k) → changed_at (changed ++ (k, list) ∷ []) j ≡ changed_at changed j
  push_elsewhere [] k j list ne = rw (other_key j k ne) refl
  push_elsewhere (c ∷ cs) k j list ne = ap (λ (rest : Option (List T)). if is_key j (Some c.0) then Some c.1 else rest) (push_elsewhere cs k j list ne)

  -- one list changes that had not changed
  pub push_one : (changed new : List (Key × List T)) (k : Key) (list : List T) → changed_at changed k ≡ None → new ≡ changed ++ (k, list) ∷ [] → ChangesOne changed new k list
  push_one changed new k list none is = rw (is) (record {
    here = push_here changed k list none;
    elsewhere = λ j ne. push_elsewhere changed k j list ne;
  })

  pub push_used : (changed new : List (Key × List T)) (d : Key × List T) → new ≡ changed ++ d ∷ [] → 0 < length d.1 → AreUsed changed → AreUsed new
  push_used changed new d is long used c there = elim (Contains-push_cases changed d c (subst (λ (cs : List (Key × List T)). Contains cs c) is there)) [
    | inl w ↦ used c w
    | inr e ↦ subst (λ (x : Key × List T). 0 < length x.1) e long
  ]

  -- what stands at the place of a key
  pub stands : (changed : List (Key × List T)) (k : Key) (place : ℕ) (d : Key × List T) → HasKeyFirst changed k place → d ≡ get_or changed place d → (d.0 ≡ k) × (changed_at changed k ≡ Some d.1)
  stands changed k place d has is =
      let low = slice_get_within changed place (k, has.items) has.there in
      let e : (k, has.items) ≡ d = same_Some (k, has.items) d (sym has.there ∙ slice_get-get_or changed place d low ∙ ap Some (sym is)) in
      (sym (ap (λ (c : Key × List T). c.0) e), first_is changed k place has.items has.there has.first ∙ ap (λ (c : Key × List T). Some c.1) e)

-- a list that is empty has no item in it, so one with an item is not empty
pub inserted_long : (list : List ℕ) (many number : ℕ) → many ≤ length list → 0 < length (insert list many number)
inserted_long list many number within = omega (arith, length-insert list many number within)

-- the lists of other keys are as they were, whether there is an item more or not
pub kept_elsewhere : (r : Result Unit AllocError) (changed : List (Key × List ℕ)) (k : Key) (place many number : ℕ) (now new : Key × List ℕ) → OnOk r (new ≡ (now.0, insert now.1 many number)) → OnErr r (new ≡ now)
    → now ≡ get_or changed place now → HasKeyFirst changed k place → (j : Key) → ¬ (j ≡ k) → changed_at (slice_set changed place new) j ≡ changed_at changed j
kept_elsewhere (Ok _) changed k place many number now new is same at has j ne =
    let w = stands changed k place now has at in
    ap (λ (d : Key × List ℕ). changed_at (slice_set changed place d) j) (is ∙ ap (λ (key : Key). (key, insert now.1 many number)) w.0)
    ∙ set_elsewhere changed k j place has.items (insert now.1 many number) has.there ne
kept_elsewhere (Err _) changed k place many number now new is same at has j ne =
    let w = stands changed k place now has at in
    ap (λ (d : Key × List ℕ). changed_at (slice_set changed place d) j) (same ∙ ap (λ (key : Key). (key, now.1)) w.0)
    ∙ set_elsewhere changed k j place has.items now.1 has.there ne

-- an item more, or the list as it was
pub used_either : (r : Result Unit AllocError) (changed : List (Key × List ℕ)) (place many number : ℕ) (now new : Key × List ℕ) → OnOk r (new ≡ (now.0, insert now.1 many number)) → OnErr r (new ≡ now) → now ≡ get_or changed place now
    → many ≤ length now.1 → AreUsed changed → AreUsed (slice_set changed place new)
used_either (Ok _) changed place many number now new is same at within used = set_used changed place new (subst (λ (d : Key × List ℕ). 0 < length d.1) (sym is) (inserted_long now.1 many number within)) used
used_either (Err _) changed place many number now new is same at within used = subst AreUsed (sym (ap (λ (d : Key × List ℕ). slice_set changed place d) (same ∙ at) ∙ set-get_or changed place now)) used
