-- Forms by keys that stand in an order.
use Rattle.std.specs.Prelude.{ℕ, Bool, false, true, List, ◌↔◌}
use Rattle.std.specs.List.{Contains}
use Rattle.std.specs.List.Sorted.{IsSorted}
use Rattle.std.specs.Ordering.{bool_cmp, nat_cmp, ordering_then}
use Rattle.std.specs.declared.cmp.Ordering.{Ordering}
use Rattle.normal_forms.specs.declared.forms.Class2.{Class2}
use Rattle.normal_forms.specs.declared.forms.Class2.TheVariants.{Expr, Partial}
use Rattle.normal_forms.specs.declared.forms.PropId2.{PropId2}
use Rattle.normal_forms.specs.declared.forms.PropId2.TheVariants as properties
use Rattle.normal_forms.specs.declared.forms.Form.{Form}
use Rattle.normal_forms.specs.declared.forms.Form.TheVariants.{N1, N2, N3, N4, N5, N6, N7, N8, N9, N10, N12}

-- whether what a form names is a fresh name, and its number
abbrev pub NameKey : Type 0
NameKey = Bool × ℕ

-- which kind of form it is, and what it names
abbrev pub FormKey : Type 0
FormKey = ℕ × NameKey × NameKey × NameKey

abbrev pub class_key : Class2 → NameKey
class_key (Expr e) = (false, e.0)
class_key (Partial n) = (true, n)

abbrev pub property_key : PropId2 → NameKey
property_key (properties.Property r) = (false, r.0)
property_key (properties.Partial n) = (true, n)

abbrev pub form_key : Form → FormKey
form_key (N1 a b) = (1, class_key a, class_key b, (false, 0))
form_key (N2 a b c) = (2, class_key a, class_key b, class_key c)
form_key (N3 a r b) = (3, class_key a, (false, r.0), (false, b.0))
form_key (N4 r a b) = (4, (false, r.0), class_key a, class_key b)
form_key (N5 r s) = (5, (false, r.0), (false, s.0), (false, 0))
form_key (N6 r s t) = (6, property_key r, property_key s, property_key t)
form_key (N7 r) = (7, (false, r.0), (false, 0), (false, 0))
form_key (N8 a b) = (8, (false, a.0), class_key b, (false, 0))
form_key (N9 a r b) = (9, (false, a.0), (false, r.0), (false, b.0))
form_key (N10 a b) = (10, (false, a.0), (false, b.0), (false, 0))
form_key (N12 a r b) = (12, (false, a.0), (false, r.0), (false, b.0))

-- the order of keys: part by part
abbrev pub name_cmp : NameKey → NameKey → Ordering
name_cmp x y = ordering_then (bool_cmp x.0 y.0) (nat_cmp x.1 y.1)

abbrev pub key_cmp : FormKey → FormKey → Ordering
key_cmp x y = ordering_then (ordering_then (ordering_then (nat_cmp x.0 y.0) (name_cmp x.1 y.1)) (name_cmp x.2 y.2)) (name_cmp x.3 y.3)

-- the keys are in order, and are those of the forms
abbrev pub AreKeysOf : List Form → List FormKey → Type 0
AreKeysOf forms keys = IsSorted key_cmp keys × ((form : Form) → Contains keys (form_key form) ↔ Contains forms form)
