-- Numbers that are put into lists.
use Rattle.std.specs.Prelude.{◌≡◌, ℕ, ◌≤◌, List, [], length, Option, Some, None}
use Rattle.std.specs.List.{insert}
use Rattle.normal_forms.specs.declared.forms.Form.{Form}
use Rattle.indexes.specs.declared.keys.Key.{Key}
use Rattle.indexes.specs.declared.form_lists.FormLists.{FormLists}
use Rattle.indexes.specs.declared.key_lists.KeyLists.{KeyLists}
use Rattle.indexes.specs.declared.roles.ByRole.{ByRole}
use Rattle.indexes.specs.FormIndex.{listed_at, AreInOrder}
use Rattle.indexes.specs.Keys.{by_kind, by_alone, by_first, by_second, by_filler, by_chain, by_end, by_plain, by_linked_first, by_linked_second, by_denied}

-- those lists, none of which has changed
pub record AreShared (lists : KeyLists) (shared : FormLists) : Type 0 where
  pub same : shared.shared.value ≡ lists
  pub whole : shared.changed.items ≡ []

-- the lists are the same, those of the first forms in the same memory
pub record IsCopyOf (old new : FormLists) : Type 0 where
  pub shared : new.shared.value ≡ old.shared.value
  pub changed : new.changed.items ≡ old.changed.items

-- the number stands in the list of the key behind so many others, and the other lists are what they were
pub record PutsUnder (old new : FormLists) (key : Key) (many number : ℕ) : Type 0 where
  pub within : many ≤ length (listed_at old key)
  pub here : listed_at new key ≡ insert (listed_at old key) many number
  pub elsewhere : (k : Key) → (k ≡ key → ⊥) → listed_at new k ≡ listed_at old k
  pub shared : new.shared.value ≡ old.shared.value

-- the number is the last of the list of the key, if there is a key
abbrev pub AddsLast : FormLists → FormLists → Option Key → ℕ → Type 0
AddsLast old new None number = new ≡ old
AddsLast old new (Some k) number = PutsUnder old new k (length (listed_at old k)) number

-- it has its place in the order of the second keys of the forms there, if there is a key
abbrev pub AddsInOrder : List Form → FormLists → FormLists → Option Key → ℕ → Type 0
AddsInOrder forms old new None number = new ≡ old
AddsInOrder forms old new (Some k) number = ((many : ℕ) × PutsUnder old new k many number) × AreInOrder forms (listed_at new)

-- the lists that are found by a second key too are in its order
pub record AreOrdered (forms : List Form) (index : ByRole FormLists) : Type 0 where
  pub fillers : AreInOrder forms (listed_at index.fillers)
  pub chains : AreInOrder forms (listed_at index.chains)
  pub denied : AreInOrder forms (listed_at index.denied)

-- the number of a form is added to the list of each key that the form has
pub record AddsForm (forms : List Form) (old new : ByRole FormLists) (form : Form) (number : ℕ) : Type 0 where
  pub kinds : AddsLast old.kinds new.kinds (by_kind form) number
  pub alone : AddsLast old.alone new.alone (by_alone form) number
  pub first : AddsLast old.first new.first (by_first form) number
  pub second : AddsLast old.second new.second (by_second form) number
  pub fillers : AddsInOrder forms old.fillers new.fillers (by_filler form) number
  pub chains : AddsInOrder forms old.chains new.chains (by_chain form) number
  pub ends : AddsLast old.ends new.ends (by_end form) number
  pub plain : AddsLast old.plain new.plain (by_plain form) number
  pub linked_first : AddsLast old.linked_first new.linked_first (by_linked_first form) number
  pub linked_second : AddsLast old.linked_second new.linked_second (by_linked_second form) number
  pub denied : AddsInOrder forms old.denied new.denied (by_denied form) number
