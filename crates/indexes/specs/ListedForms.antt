-- Forms that stand in lists with what they lead to.
use Rattle.std.specs.Prelude.{◌≡◌, ℕ, ◌↔◌, List, ◌∷◌, map, slice_get, if◌then◌else◌, Option, Some, None}
use Rattle.std.specs.List.{AllZip, Contains}
use Rattle.axioms.specs.declared.ids.PropId.{PropId}
use Rattle.normal_forms.specs.declared.forms.Class2.{Class2}
use Rattle.normal_forms.specs.declared.forms.Class2.TheVariants.{Expr}
use Rattle.normal_forms.specs.declared.forms.Form.{Form}
use Rattle.normal_forms.specs.declared.forms.Form.TheVariants.{N1, N3, N4}
use Rattle.normal_forms.specs.StoredForms.{class_from}
use Rattle.indexes.specs.declared.key_lists.KeyLists.{KeyLists}
use Rattle.indexes.specs.declared.keys.Key.{Key}
use Rattle.indexes.specs.declared.keys.Key.TheVariants.{Whole, Partial}
use Rattle.indexes.specs.declared.listed_forms.ListedForm.{ListedForm}
use Rattle.indexes.specs.declared.listed_forms.ListedForms.{ListedForms}
use Rattle.indexes.specs.declared.form_lists.FormLists.{FormLists}
use Rattle.indexes.specs.declared.led_forms.LedForms.{LedForms}
use Rattle.indexes.specs.ChangedLists.{changed_or}
use Rattle.indexes.specs.FormsUnderKeys.{is_key, IsUnder}
use Rattle.indexes.specs.Lists.{list_at}

-- the property of the restriction on one side of the form
abbrev pub led_property : Form → Option PropId
led_property (N3 a r b) = Some r
led_property (N4 r a b) = Some r
led_property _ = None

-- the class that the form leads to from one class alone or from a restriction: from the filler of a restriction, or to the filler of one
abbrev pub led_class : Form → Class2
led_class (N1 a b) = b
led_class (N3 a r b) = Expr b
led_class (N4 r a b) = b
led_class _ = Expr (record { 0 = 0 })

abbrev pub number_of : ListedForm → ℕ
number_of l = l.number

abbrev pub listed_property : ListedForm → Option PropId
listed_property l = if l.has_property then Some (record { 0 = l.property }) else None

abbrev pub listed_class : ListedForm → Class2
listed_class l = class_from l.is_partial l.class

-- what the form leads to stands there
abbrev pub Says : ListedForm → Form → Type 0
Says l form = (listed_property l ≡ led_property form) × (listed_class l ≡ led_class form)

-- .. the form of the number beside which it stands
abbrev pub SaysItsForm : List Form → ListedForm → Type 0
SaysItsForm forms l = (form : Form) → slice_get forms l.number ≡ Some form → Says l form

abbrev pub SayTheirForms : List Form → List ListedForm → Type 0
SayTheirForms forms listed = (l : ListedForm) → Contains listed l → SaysItsForm forms l

-- for each of the numbers, in their order, its form stands there
pub record AreOf (forms : List Form) (numbers : List ℕ) (listed : List ListedForm) : Type 0 where
  pub numbers_are : map number_of listed ≡ numbers
  pub say : SayTheirForms forms listed

-- .. of lists of both kinds of keys
pub record AreListedForms (forms : List Form) (lists : KeyLists) (listed : ListedForms) : Type 0 where
  pub wholes : AreOf forms lists.wholes.numbers.items listed.wholes.items
  pub partials : AreOf forms lists.partials.numbers.items listed.partials.items

-- .. of lists that have changed, one by one
abbrev pub AreChangedForms : List Form → List (Key × List ℕ) → List (List ListedForm) → Type 0
AreChangedForms forms lists changed = AllZip (λ numbers listed. AreOf forms numbers.1 listed) lists changed

-- those of the list of a key, if that has changed
abbrev pub changed_forms_at : List (Key × List ℕ) → List (List ListedForm) → Key → Option (List ListedForm)
changed_forms_at (c ∷ cs) (listed ∷ more) k = if is_key k (Some c.0) then Some listed else changed_forms_at cs more k
changed_forms_at _ _ k = None

-- those of a key
abbrev pub forms_at_key : KeyLists → ListedForms → Key → List ListedForm
forms_at_key lists listed (Whole k) = list_at lists.wholes.starts.items listed.wholes.items k
forms_at_key lists listed (Partial k) = list_at lists.partials.starts.items listed.partials.items k

-- .. where copies share those of the keys that have not changed
abbrev pub led_at : FormLists → LedForms → Key → List ListedForm
led_at lists led k = changed_or (changed_forms_at lists.changed.items led.changed k) (forms_at_key lists.shared.value led.shared.value k)

-- exactly the forms with a key are there, each with what it leads to
pub record AreLedBy (key : Form → Option Key) (forms : List Form) (k : Key) (listed : List ListedForm) : Type 0 where
  pub numbers : (n : ℕ) → Contains (map number_of listed) n ↔ IsUnder key forms k n
  pub say : SayTheirForms forms listed
