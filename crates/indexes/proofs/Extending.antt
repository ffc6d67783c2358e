-- Lists of forms by key that get one form more.
use Rattle.std.proofs.Common.{◌≡◌, ◌↔◌, ◌⊎◌, inl, inr, ℕ, ◌+◌, ◌<◌, ◌≤◌, List, [], ◌∷◌, ◌++◌, length, get_or, slice_get, take, Option, Some, None, Contains, refl, sym, ap, ap₂, subst, ◌∙◌, arith}
use Rattle.std.proofs.lemmas.List.{get_or_default, length-take-le, take_all}
use Rattle.std.proofs.lemmas.List.Sorted.{IsNonDecreasingBy-insert}
use Rattle.std.proofs.lemmas.Option.{none-some, same_Some, slice_get_within}
use Rattle.std.specs.List.{insert}
use Rattle.std.specs.List.Sorted.{IsNonDecreasing}
use Rattle.lemmas.proofs.Places.{keeps_push, slice_get_push, slice_get_push_cases, slice_get_take, take_push}
use Rattle.normal_forms.specs.declared.forms.Form.{Form}
use Rattle.indexes.specs.declared.keys.Key.{Key}
use Rattle.indexes.specs.declared.form_lists.FormLists.{FormLists}
use Rattle.indexes.specs.declared.roles.ByRole.{ByRole}
use Rattle.indexes.specs.FormIndex.{at_key, listed_at, AreInOrder, Ascend, IsFormIndex, ListsNumbers}
use Rattle.indexes.specs.FormsUnderKeys.{HasKeyAt}
use Rattle.indexes.specs.Insertions.{AddsForm, AddsInOrder, AddsLast, AreOrdered, IsCopyOf, PutsUnder}
use Rattle.indexes.specs.ChangedLists.{changed_at, changed_or}
use Rattle.indexes.specs.declared.key_lists.KeyLists.{KeyLists}
use Rattle.indexes.specs.Keys.{by_kind, by_alone, by_first, by_second, by_filler, by_chain, by_end, by_plain, by_linked_first, by_linked_second, by_denied}
use Rattle.indexes.specs.Roles.{ForEach, ForEachTwo}
use Rattle.indexes.specs.Seconds.{form_rank, rank_at, IsInOrder}
use Rattle.indexes.proofs.ByRoles.{for_both, for_other}
use Rattle.indexes.proofs.Putting.{each_list, put_cases, put_itself, put_there, same_key}

-- the first so many of the forms are listed, those that have an order in the order of all
pub record AreIndexedTo (forms : List Form) (many : ℕ) (index : ByRole FormLists) : Type 0 where
  pub listed : ForEach (λ key lists. ListsNumbers key (slice_get (take many forms)) (listed_at lists)) index
  pub first_ascends : Ascend (listed_at index.first)
  pub second_ascends : Ascend (listed_at index.second)
  pub ordered : AreOrdered forms index

-- ---- one form more

module _ (key : Form → Option Key) (forms : List Form) (n : ℕ) (form : Form) (at : slice_get forms n ≡ Some form) where
  abbrev first : List Form
  first = take n forms

  abbrev more : List Form
  more = first ++ form ∷ []

  long : length first ≡ n
  long = length-take-le n forms (let l = slice_get_within forms n form at in omega (arith, l))

  next : slice_get more n ≡ Some form
  next = subst (λ (m : ℕ). slice_get more m ≡ Some form) long (slice_get_push first form)

  -- what has the key among one more had it before, or is that one
  had : (k : Key) (m : ℕ) → HasKeyAt key (slice_get more) k m → HasKeyAt key (slice_get first) k m ⊎ ((m ≡ n) × (key form ≡ Some k))
  had k m w = elim (slice_get_push_cases first form m w.0 w.1) [
    | inl there ↦ inl (w.0, there, w.2)
    | inr new ↦ inr (new.0 ∙ long, ap key new.1 ∙ w.2)
  ]

  kept : (k : Key) (m : ℕ) → HasKeyAt key (slice_get first) k m → HasKeyAt key (slice_get more) k m
  kept k m w = (w.0, keeps_push first form m w.0 w.1, w.2)

  -- lists to which nothing is added where the form has no key
  pub listed_still : (lists : FormLists) → key form ≡ None → ListsNumbers key (slice_get first) (listed_at lists) → ListsNumbers key (slice_get (take (n + 1) forms)) (listed_at lists)
  listed_still lists none listed = subst (λ (all : List Form). ListsNumbers key (slice_get all) (listed_at lists)) (sym (take_push forms n form at)) (λ k m. (
    λ c. kept k m ((listed k m).0 c),
    λ w. elim (had k m w) [ inl there ↦ (listed k m).1 there | inr new ↦ absurd (none-some k (sym none ∙ new.1)) ],
  ))

  module _ (old new : FormLists) (mine : Key) (many : ℕ) (has : key form ≡ Some mine) (puts : PutsUnder old new mine many n) (listed : ListsNumbers key (slice_get first) (listed_at old)) where
    from_list : (k : Key) (m : ℕ) → Contains (listed_at new k) m → HasKeyAt key (slice_get more) k m
    from_list k m c = elim (same_key k mine) [
      | inr ne ↦ kept k m ((listed k m).0 (subst (λ (list : List ℕ). Contains list m) (puts.elsewhere k ne) c))
      | inl e ↦ elim (put_cases (listed_at old mine) many n m (subst (λ (list : List ℕ). Contains list m) (ap (listed_at new) e ∙ puts.here) c)) [
        | inl there ↦ kept k m ((listed k m).0 (subst (λ (j : Key). Contains (listed_at old j) m) (sym e) there))
        | inr is ↦ (form, ap (slice_get more) (sym is) ∙ next, has ∙ ap Some (sym e))
      ]
    ]

    to_list : (k : Key) (m : ℕ) → HasKeyAt key (slice_get more) k m → Contains (listed_at new k) m
    to_list k m w = elim (had k m w) [
      | inl there ↦ elim (same_key k mine) [
        | inr ne ↦ subst (λ (list : List ℕ). Contains list m) (sym (puts.elsewhere k ne)) ((listed k m).1 there)
        | inl e ↦ subst (λ (list : List ℕ). Contains list m) (sym (ap (listed_at new) e ∙ puts.here)) (put_there (listed_at old mine) many n m (subst (λ (j : Key). Contains (listed_at old j) m) e ((listed k m).1 there)))
      ]
      | inr is ↦
          (let e : k ≡ mine = same_Some k mine (sym is.1 ∙ has) in
          subst (λ (list : List ℕ). Contains list m) (sym (ap (listed_at new) e ∙ puts.here)) (subst (λ (j : ℕ). Contains (insert (listed_at old mine) many n) j) (sym is.0) (put_itself (listed_at old mine) many n)))
    ]

    pub listed_more : ListsNumbers key (slice_get (take (n + 1) forms)) (listed_at new)
    listed_more = subst (λ (all : List Form). ListsNumbers key (slice_get all) (listed_at new)) (sym (take_push forms n form at)) (λ k m. (from_list k m, to_list k m))

    -- each of the numbers that are listed is less
    less : (k : Key) (m : ℕ) → Contains (listed_at old k) m → m < n
    less k m c = let w = (listed k m).0 c in omega (arith, slice_get_within first m w.0 w.1, long)

    -- at the end of its list the number stands in order
    pub ascends_more : many ≡ length (listed_at old mine) → ((k : Key) → IsNonDecreasing (listed_at old k)) → (k : Key) → IsNonDecreasing (listed_at new k)
    ascends_more last ascend =
        let xs = listed_at old mine in
        each_list IsNonDecreasing old new mine many n puts
        (IsNonDecreasingBy-insert (λ x. x) xs many n (ascend mine) puts.within
        (λ i d low. let l = less mine (get_or xs i d) (i, omega (arith, low, last), get_or_default xs i (get_or xs i d) d (omega (arith, low, last))) in omega (arith, l))
        (λ i d high low. absurd (omega (arith, high, low, last))))
        ascend

module _ (forms : List Form) (n : ℕ) (form : Form) (at : slice_get forms n ≡ Some form) (key : Form → Option Key) (old new : FormLists) (listed : ListsNumbers key (slice_get (take n forms)) (listed_at old)) where
  by_last : (k : Option Key) → key form ≡ k → AddsLast old new k n → ListsNumbers key (slice_get (take (n + 1) forms)) (listed_at new)
  by_last None none same = subst (λ (l : FormLists). ListsNumbers key (slice_get (take (n + 1) forms)) (listed_at l)) (sym same) (listed_still key forms n form at old none listed)
  by_last (Some k) has puts = listed_more key forms n form at old new k (length (listed_at old k)) has puts listed

  by_order : (k : Option Key) → key form ≡ k → AddsInOrder forms old new k n → ListsNumbers key (slice_get (take (n + 1) forms)) (listed_at new)
  by_order None none same = subst (λ (l : FormLists). ListsNumbers key (slice_get (take (n + 1) forms)) (listed_at l)) (sym same) (listed_still key forms n form at old none listed)
  by_order (Some k) has puts = listed_more key forms n form at old new k puts.0.0 has puts.0.1 listed

  ascending : (k : Option Key) → key form ≡ k → AddsLast old new k n → Ascend (listed_at old) → Ascend (listed_at new)
  ascending None none same ascend = subst (λ (l : FormLists). Ascend (listed_at l)) (sym same) ascend
  ascending (Some k) has puts ascend = ascends_more key forms n form at old new k (length (listed_at old k)) has puts listed refl ascend

ordered : (forms : List Form) (old new : FormLists) (k : Option Key) (n : ℕ) → AddsInOrder forms old new k n → AreInOrder forms (listed_at old) → AreInOrder forms (listed_at new)
ordered forms old new None n same order = subst (λ (l : FormLists). AreInOrder forms (listed_at l)) (sym same) order
ordered forms old new (Some k) n puts order = puts.1

pub one_more : (forms : List Form) (n : ℕ) (form : Form) (old new : ByRole FormLists) → slice_get forms n ≡ Some form → AreIndexedTo forms n old → AddsForm forms old new form n → AreIndexedTo forms (n + 1) new
one_more forms n form old new at are adds = record {
  listed = record {
    kinds = by_last forms n form at by_kind old.kinds new.kinds are.listed.kinds (by_kind form) refl adds.kinds;
    alone = by_last forms n form at by_alone old.alone new.alone are.listed.alone (by_alone form) refl adds.alone;
    first = by_last forms n form at by_first old.first new.first are.listed.first (by_first form) refl adds.first;
    second = by_last forms n form at by_second old.second new.second are.listed.second (by_second form) refl adds.second;
    fillers = by_order forms n form at by_filler old.fillers new.fillers are.listed.fillers (by_filler form) refl adds.fillers;
    chains = by_order forms n form at by_chain old.chains new.chains are.listed.chains (by_chain form) refl adds.chains;
    ends = by_last forms n form at by_end old.ends new.ends are.listed.ends (by_end form) refl adds.ends;
    plain = by_last forms n form at by_plain old.plain new.plain are.listed.plain (by_plain form) refl adds.plain;
    linked_first = by_last forms n form at by_linked_first old.linked_first new.linked_first are.listed.linked_first (by_linked_first form) refl adds.linked_first;
    linked_second = by_last forms n form at by_linked_second old.linked_second new.linked_second are.listed.linked_second (by_linked_second form) refl adds.linked_second;
    denied = by_order forms n form at by_denied old.denied new.denied are.listed.denied (by_denied form) refl adds.denied;
  };
  first_ascends = ascending forms n form at by_first old.first new.first are.listed.first (by_first form) refl adds.first are.first_ascends;
  second_ascends = ascending forms n form at by_second old.second new.second are.listed.second (by_second form) refl adds.second are.second_ascends;
  ordered = record {
    fillers = ordered forms old.fillers new.fillers (by_filler form) n adds.fillers are.ordered.fillers;
    chains = ordered forms old.chains new.chains (by_chain form) n adds.chains are.ordered.chains;
    denied = ordered forms old.denied new.denied (by_denied form) n adds.denied are.ordered.denied;
  };
}

-- ---- where it begins, and where it ends

-- the numbers of the first forms stand in the order of all
whole_order : (key : Form → Option Key) (forms : List Form) (n : ℕ) (lists : FormLists) → ListsNumbers key (slice_get (take n forms)) (listed_at lists) → AreInOrder (take n forms) (listed_at lists) → AreInOrder forms (listed_at lists)
whole_order key forms n lists listed order k i j d le low =
    let xs = listed_at lists k in
    let rank_is : (i : ℕ) → i < length xs → rank_at (take n forms) (get_or xs i d) ≡ rank_at forms (get_or xs i d) = λ i l.
    let w = (listed k (get_or xs i d)).0 (i, l, get_or_default xs i (get_or xs i d) d l) in
    ap form_rank (w.1 ∙ sym (slice_get_take n forms (get_or xs i d) w.0 w.1).1) in
    omega (arith, order k i j d le low, rank_is i (omega (arith, le, low)), rank_is j low)

-- copies of the lists list the same
copied : (key : Form → Option Key) (there : ℕ → Option Form) (old new : FormLists) → ((k : Key) → listed_at new k ≡ listed_at old k) → ListsNumbers key there (listed_at old) → ListsNumbers key there (listed_at new)
copied key there old new same listed k m = subst (λ (list : List ℕ). Contains list m ↔ HasKeyAt key there k m) (sym (same k)) (listed k m)

same_lists : (old new : FormLists) → IsCopyOf old new → (k : Key) → listed_at new k ≡ listed_at old k
same_lists old new copy k = ap₂ (λ (cs : List (Key × List ℕ)) (l : KeyLists). changed_or (changed_at cs k) (at_key l k)) copy.changed copy.shared

pub at_first : (forms : List Form) (n : ℕ) (old new : ByRole FormLists) → ForEachTwo (λ _ old new. IsCopyOf old new) old new → IsFormIndex listed_at (take n forms) old → AreIndexedTo forms n new
at_first forms n old new copies is =
    let same : ForEachTwo (λ _ old new. (k : Key) → listed_at new k ≡ listed_at old k) old new = for_both (λ _ old new. IsCopyOf old new) (λ _ old new. (k : Key) → listed_at new k ≡ listed_at old k) old new (λ key before after copy. same_lists before after copy) copies in
    let order : (key : Form → Option Key) (before after : FormLists) → ((k : Key) → listed_at after k ≡ listed_at before k) → ListsNumbers key (slice_get (take n forms)) (listed_at before) → AreInOrder (take n forms) (listed_at before) → AreInOrder forms (listed_at after) = λ key before after s listed in_order k. subst (IsInOrder forms) (sym (s k)) (whole_order key forms n before listed in_order k) in
    record {
      listed = for_other (λ key lists. ListsNumbers key (slice_get (take n forms)) (listed_at lists)) (λ _ before after. (k : Key) → listed_at after k ≡ listed_at before k) (λ key lists. ListsNumbers key (slice_get (take n forms)) (listed_at lists)) old new
          (λ key before after listed s. copied key (slice_get (take n forms)) before after s listed) is.listed same;
      first_ascends = λ k. subst IsNonDecreasing (sym (same.first k)) (is.first_ascends k);
      second_ascends = λ k. subst IsNonDecreasing (sym (same.second k)) (is.second_ascends k);
      ordered = record {
        fillers = order by_filler old.fillers new.fillers same.fillers is.listed.fillers is.fillers_in_order;
        chains = order by_chain old.chains new.chains same.chains is.listed.chains is.chains_in_order;
        denied = order by_denied old.denied new.denied same.denied is.listed.denied is.denied_in_order;
      };
    }

pub at_last : (forms : List Form) (n : ℕ) (index : ByRole FormLists) → length forms ≤ n → AreIndexedTo forms n index → IsFormIndex listed_at forms index
at_last forms n index past are = record {
  listed = subst (λ (all : List Form). ForEach (λ key lists. ListsNumbers key (slice_get all) (listed_at lists)) index) (take_all n forms past) are.listed;
  first_ascends = are.first_ascends;
  second_ascends = are.second_ascends;
  fillers_in_order = are.ordered.fillers;
  chains_in_order = are.ordered.chains;
  denied_in_order = are.ordered.denied;
}

-- ---- what stays shared

-- the lists of the first forms are the same
abbrev pub Share : ByRole FormLists → ByRole FormLists → Type 0
Share old new = ForEachTwo (λ _ before after. after.shared.value ≡ before.shared.value) old new

pub copies_share : (old new : ByRole FormLists) → ForEachTwo (λ _ old new. IsCopyOf old new) old new → Share old new
copies_share old new copies = for_both (λ _ old new. IsCopyOf old new) (λ _ before after. after.shared.value ≡ before.shared.value) old new (λ key before after copy. copy.shared) copies

last_shares : (old new : FormLists) (k : Option Key) (n : ℕ) → AddsLast old new k n → new.shared.value ≡ old.shared.value
last_shares old new None n same = ap (λ (l : FormLists). l.shared.value) same
last_shares old new (Some k) n puts = puts.shared

order_shares : (forms : List Form) (old new : FormLists) (k : Option Key) (n : ℕ) → AddsInOrder forms old new k n → new.shared.value ≡ old.shared.value
order_shares forms old new None n same = ap (λ (l : FormLists). l.shared.value) same
order_shares forms old new (Some k) n puts = puts.0.1.shared

pub still_share : (forms : List Form) (n : ℕ) (form : Form) (first old new : ByRole FormLists) → AddsForm forms old new form n → Share first old → Share first new
still_share forms n form first old new adds share = record {
  kinds = last_shares old.kinds new.kinds (by_kind form) n adds.kinds ∙ share.kinds;
  alone = last_shares old.alone new.alone (by_alone form) n adds.alone ∙ share.alone;
  first = last_shares old.first new.first (by_first form) n adds.first ∙ share.first;
  second = last_shares old.second new.second (by_second form) n adds.second ∙ share.second;
  fillers = order_shares forms old.fillers new.fillers (by_filler form) n adds.fillers ∙ share.fillers;
  chains = order_shares forms old.chains new.chains (by_chain form) n adds.chains ∙ share.chains;
  ends = last_shares old.ends new.ends (by_end form) n adds.ends ∙ share.ends;
  plain = last_shares old.plain new.plain (by_plain form) n adds.plain ∙ share.plain;
  linked_first = last_shares old.linked_first new.linked_first (by_linked_first form) n adds.linked_first ∙ share.linked_first;
  linked_second = last_shares old.linked_second new.linked_second (by_linked_second form) n adds.linked_second ∙ share.linked_second;
  denied = order_shares forms old.denied new.denied (by_denied form) n adds.denied ∙ share.denied;
}
