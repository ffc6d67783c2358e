-- What an index of forms lists.
use Rattle.std.specs.Prelude.{◌≡◌, ◌≤◌, ◌↔◌, ℕ, List, [], length, slice_get, take, Option}
use Rattle.std.specs.List.{Contains}
use Rattle.std.specs.List.Sorted.{IsNonDecreasing}
use Rattle.normal_forms.specs.declared.forms.Form.{Form}
use Rattle.indexes.specs.declared.keys.Key.{Key}
use Rattle.indexes.specs.declared.keys.Key.TheVariants.{Whole, Partial}
use Rattle.indexes.specs.declared.key_lists.KeyLists.{KeyLists}
use Rattle.indexes.specs.declared.roles.ByRole.{ByRole}
use Rattle.indexes.specs.declared.form_lists.FormLists.{FormLists}
use Rattle.indexes.specs.declared.led_forms.LedForms.{LedForms}
use Rattle.indexes.specs.ChangedLists.{changed_at, changed_or}
use Rattle.indexes.specs.Keys.{by_alone, by_filler}
use Rattle.indexes.specs.ListedForms.{AreChangedForms, AreListedForms}
use Rattle.indexes.specs.Roles.{ForEach}
use Rattle.axioms.specs.declared.ids.ExprId.{ExprId}
use Rattle.indexes.specs.declared.disjoint.Operand.{Operand}
use Rattle.indexes.specs.Disjoint.{operand_key, operands_from, AreInLists}
use Rattle.indexes.specs.Lists.{list_at}
use Rattle.indexes.specs.FormsUnderKeys.{HasKeyAt}
use Rattle.indexes.specs.Seconds.{IsInOrder}

abbrev pub at_key : KeyLists → Key → List ℕ
at_key lists (Whole k) = list_at lists.wholes.starts.items lists.wholes.numbers.items k
at_key lists (Partial k) = list_at lists.partials.starts.items lists.partials.numbers.items k

-- the list of a key where copies share those of the keys that have not changed
abbrev pub listed_at : FormLists → Key → List ℕ
listed_at lists k = changed_or (changed_at lists.changed.items k) (at_key lists.shared.value k)

abbrev pub ListsNothing : (Key → List ℕ) → Type 0
ListsNothing at = (k : Key) → at k ≡ []

-- exactly the numbers of what has a key are listed there
abbrev pub ListsNumbers : {X : Type 0} → (X → Option Key) → (ℕ → Option X) → (Key → List ℕ) → Type 0
ListsNumbers key there at = (k : Key) (n : ℕ) → Contains (at k) n ↔ HasKeyAt key there k n

-- the list of each key ascends
abbrev pub Ascend : (Key → List ℕ) → Type 0
Ascend at = (k : Key) → IsNonDecreasing (at k)

-- the list of each key is in the order of the second keys of the forms
abbrev pub AreInOrder : List Form → (Key → List ℕ) → Type 0
AreInOrder forms at = (k : Key) → IsInOrder forms (at k)

-- the lists have the same numbers, and are in that order
pub record ArePutInOrder (forms : List Form) (old new : KeyLists) : Type 0 where
  pub same : (k : Key) (n : ℕ) → Contains (at_key new k) n ↔ Contains (at_key old k) n
  pub order : AreInOrder forms (at_key new)

-- the lists by a filler, by the first property of a chain and by the source of a denied pair are put into order, and the others stay
pub record AreAllPutInOrder (forms : List Form) (old new : ByRole KeyLists) : Type 0 where
  pub kinds : new.kinds ≡ old.kinds
  pub alone : new.alone ≡ old.alone
  pub first : new.first ≡ old.first
  pub second : new.second ≡ old.second
  pub fillers : ArePutInOrder forms old.fillers new.fillers
  pub chains : ArePutInOrder forms old.chains new.chains
  pub ends : new.ends ≡ old.ends
  pub plain : new.plain ≡ old.plain
  pub linked_first : new.linked_first ≡ old.linked_first
  pub linked_second : new.linked_second ≡ old.linked_second
  pub denied : ArePutInOrder forms old.denied new.denied

-- operands of lists of disjoint classes are listed by the keys of their classes, in their order
pub record ArePlaced (operands : List Operand) (places : KeyLists) : Type 0 where
  pub lists : AreInLists operands
  pub listed : ListsNumbers operand_key (slice_get operands) (at_key places)
  pub ascend : Ascend (at_key places)

-- the numbers of the forms are listed by each key that they have
abbrev pub AreFormsListed : {L : Type 0} → (L → Key → List ℕ) → List Form → ByRole L → Type 0
AreFormsListed at forms index = ForEach (λ key lists. ListsNumbers key (slice_get forms) (at lists)) index

-- .. those of one class of an intersection in the order of their numbers, those with a second key by which they are found in its order
pub record IsFormIndex {L : Type 0} (at : L → Key → List ℕ) (forms : List Form) (index : ByRole L) : Type 0 where
  pub listed : AreFormsListed at forms index
  pub first_ascends : Ascend (at index.first)
  pub second_ascends : Ascend (at index.second)
  pub fillers_in_order : AreInOrder forms (at index.fillers)
  pub chains_in_order : AreInOrder forms (at index.chains)
  pub denied_in_order : AreInOrder forms (at index.denied)

-- forms stand beside the numbers of those of one key: the first so many beside those that copies share, which list just these, and all
-- beside those that have changed
pub record AreLedForms (key : Form → Option Key) (forms : List Form) (lists : FormLists) (led : LedForms) : Type 0 where
  pub few : led.end ≤ length forms
  pub listed : ListsNumbers key (slice_get (take led.end forms)) (at_key lists.shared.value)
  pub shared : AreListedForms (take led.end forms) lists.shared.value led.shared.value
  pub changed : AreChangedForms forms lists.changed.items led.changed

-- .. the operands are those of the lists of disjoint classes, and beside each number by a class alone and by a filler its form stands
pub record IsIndexed (forms : List Form) (classes : List (List ExprId)) (operands : List Operand) (lists : ByRole FormLists) (of_alone of_fillers : LedForms) : Type 0 where
  pub listed : operands ≡ operands_from 0 classes
  pub index : IsFormIndex listed_at forms lists
  pub alone : AreLedForms by_alone forms lists.alone of_alone
  pub fillers : AreLedForms by_filler forms lists.fillers of_fillers
