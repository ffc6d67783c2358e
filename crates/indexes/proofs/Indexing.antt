-- What an index of forms finds.
use Rattle.std.proofs.Common.{◌≡◌, ◌↔◌, ◌∙◌, ℕ, List, [], slice_get, Option, Contains, ap, sym, subst}
use Rattle.std.specs.List.Sorted.{IsNonDecreasing}
use Rattle.normal_forms.specs.declared.forms.Form.{Form}
use Rattle.indexes.specs.declared.key_lists.KeyLists.{KeyLists}
use Rattle.indexes.specs.declared.keys.Key.{Key}
use Rattle.indexes.specs.declared.roles.ByRole.{ByRole}
use Rattle.indexes.specs.Keys.{by_kind, by_alone, by_first, by_second, by_filler, by_chain, by_end, by_plain, by_linked_first, by_linked_second, by_denied}
use Rattle.indexes.specs.FormIndex.{at_key, listed_at, AreAllPutInOrder, AreFormsListed, AreInOrder, ArePutInOrder, Ascend, IsFormIndex, ListsNumbers}
use Rattle.indexes.specs.ChangedLists.{changed_at, changed_or}
use Rattle.indexes.specs.Insertions.{AreShared}
use Rattle.indexes.specs.Seconds.{IsInOrder}
use Rattle.indexes.specs.declared.form_lists.FormLists.{FormLists}
use Rattle.indexes.proofs.ByRoles.{for_other, for_second}
use Rattle.indexes.specs.Roles.{ForEach, ForEachTwo}
use Rattle.indexes.specs.FormsUnderKeys.{HasKeyAt, IsUnder}

-- lists that are put into order list what they did
put_listed : (key : Form → Option Key) (forms : List Form) (old new : KeyLists) → ArePutInOrder forms old new → ListsNumbers key (slice_get forms) (at_key old) → ListsNumbers key (slice_get forms) (at_key new)
put_listed key forms old new put listed k n = (λ c. (listed k n).0 ((put.same k n).0 c), λ w. (put.same k n).1 ((listed k n).1 w))

-- the lists of the forms, put into order, are an index of them
pub all_indexed : (forms : List Form) (index new : ByRole KeyLists) → AreFormsListed at_key forms index → ForEach (λ key lists. Ascend (at_key lists)) index → AreAllPutInOrder forms index new → IsFormIndex at_key forms new
all_indexed forms index new listed ascend put =
    let there = slice_get forms in
    record {
      listed = record {
        kinds = subst (λ (l : KeyLists). ListsNumbers by_kind there (at_key l)) (sym put.kinds) listed.kinds;
        alone = subst (λ (l : KeyLists). ListsNumbers by_alone there (at_key l)) (sym put.alone) listed.alone;
        first = subst (λ (l : KeyLists). ListsNumbers by_first there (at_key l)) (sym put.first) listed.first;
        second = subst (λ (l : KeyLists). ListsNumbers by_second there (at_key l)) (sym put.second) listed.second;
        fillers = put_listed by_filler forms index.fillers new.fillers put.fillers listed.fillers;
        chains = put_listed by_chain forms index.chains new.chains put.chains listed.chains;
        ends = subst (λ (l : KeyLists). ListsNumbers by_end there (at_key l)) (sym put.ends) listed.ends;
        plain = subst (λ (l : KeyLists). ListsNumbers by_plain there (at_key l)) (sym put.plain) listed.plain;
        linked_first = subst (λ (l : KeyLists). ListsNumbers by_linked_first there (at_key l)) (sym put.linked_first) listed.linked_first;
        linked_second = subst (λ (l : KeyLists). ListsNumbers by_linked_second there (at_key l)) (sym put.linked_second) listed.linked_second;
        denied = put_listed by_denied forms index.denied new.denied put.denied listed.denied;
      };
      first_ascends = subst (λ (l : KeyLists). Ascend (at_key l)) (sym put.first) ascend.first;
      second_ascends = subst (λ (l : KeyLists). Ascend (at_key l)) (sym put.second) ascend.second;
      fillers_in_order = put.fillers.order;
      chains_in_order = put.chains.order;
      denied_in_order = put.denied.order;
    }

-- the list of a key has exactly the forms with it
pub under : (forms : List Form) (key : Form → Option Key) (at : Key → List ℕ) (k : Key) (list : List ℕ) → list ≡ at k → ListsNumbers key (slice_get forms) at → (n : ℕ) → Contains list n ↔ IsUnder key forms k n
under forms key at k list is listed n = subst (λ (l : List ℕ). Contains l n ↔ IsUnder key forms k n) (sym is) (listed k n)

-- ---- lists that copies share

-- what is shared is what was listed
pub same_at : (lists : KeyLists) (shared : FormLists) → AreShared lists shared → (k : Key) → listed_at shared k ≡ at_key lists k
same_at lists shared are k = ap (λ (cs : List (Key × List ℕ)). changed_or (changed_at cs k) (at_key shared.shared.value k)) are.whole ∙ ap (λ (l : KeyLists). at_key l k) are.same

same_numbers : (key : Form → Option Key) (there : ℕ → Option Form) (old new : Key → List ℕ) → ((k : Key) → new k ≡ old k) → ListsNumbers key there old → ListsNumbers key there new
same_numbers key there old new same listed k n = subst (λ (list : List ℕ). Contains list n ↔ HasKeyAt key there k n) (sym (same k)) (listed k n)

pub all_shared : (forms : List Form) (lists : ByRole KeyLists) (shared : ByRole FormLists) → IsFormIndex at_key forms lists → ForEachTwo (λ _ lists shared. AreShared lists shared) lists shared → IsFormIndex listed_at forms shared
all_shared forms lists shared is are =
    let order : (l : KeyLists) (s : FormLists) → AreShared l s → AreInOrder forms (at_key l) → AreInOrder forms (listed_at s) = λ l s a in_order k. subst (IsInOrder forms) (sym (same_at l s a k)) (in_order k) in
    let ascend : (l : KeyLists) (s : FormLists) → AreShared l s → Ascend (at_key l) → Ascend (listed_at s) = λ l s a rise k. subst IsNonDecreasing (sym (same_at l s a k)) (rise k) in
    record {
      listed = for_other (λ key l. ListsNumbers key (slice_get forms) (at_key l)) (λ _ l s. AreShared l s) (λ key s. ListsNumbers key (slice_get forms) (listed_at s)) lists shared
          (λ key l s listed a. same_numbers key (slice_get forms) (at_key l) (listed_at s) (same_at l s a) listed) is.listed are;
      first_ascends = ascend lists.first shared.first are.first is.first_ascends;
      second_ascends = ascend lists.second shared.second are.second is.second_ascends;
      fillers_in_order = order lists.fillers shared.fillers are.fillers is.fillers_in_order;
      chains_in_order = order lists.chains shared.chains are.chains is.chains_in_order;
      denied_in_order = order lists.denied shared.denied are.denied is.denied_in_order;
    }

-- .. and none has changed
pub all_whole : (lists : ByRole KeyLists) (shared : ByRole FormLists) → ForEachTwo (λ _ lists shared. AreShared lists shared) lists shared → ForEach (λ _ lists. lists.changed.items ≡ []) shared
all_whole lists shared are = for_second (λ _ lists shared. AreShared lists shared) (λ _ lists. lists.changed.items ≡ []) lists shared (λ key l s a. a.whole) are
