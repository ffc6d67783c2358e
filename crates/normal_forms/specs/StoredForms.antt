-- What the numbers of a stored form, and of what gave it, stand for.
use Rattle.std.specs.Prelude.{ℕ, Bool, ◌^◌, ◌≤◌, if◌then◌else◌}
use Rattle.normal_forms.specs.declared.origins.StoredOrigin.{StoredOrigin}
use Rattle.normal_forms.specs.declared.stored.Kind.{Kind}
use Rattle.normal_forms.specs.declared.stored.Kind.TheVariants as kinds
use Rattle.normal_forms.specs.declared.stored.StoredForm.{StoredForm}
use Rattle.normal_forms.specs.declared.forms.Class2.{Class2}
use Rattle.normal_forms.specs.declared.forms.Class2.TheVariants as classes
use Rattle.normal_forms.specs.declared.forms.Form.{Form}
use Rattle.normal_forms.specs.declared.forms.Form.TheVariants as forms
use Rattle.normal_forms.specs.declared.forms.Origin.{Origin}
use Rattle.normal_forms.specs.declared.forms.Origin.TheVariants as origins
use Rattle.normal_forms.specs.declared.forms.PropId2.{PropId2}
use Rattle.normal_forms.specs.declared.forms.PropId2.TheVariants as properties

abbrev pub class_from : Bool → ℕ → Class2
class_from is_partial n = if is_partial then classes.Partial n else classes.Expr (record { 0 = n })

abbrev pub property_from : Bool → ℕ → PropId2
property_from is_partial n = if is_partial then properties.Partial n else properties.Property (record { 0 = n })

-- the form of that kind, by the numbers that it names in their order and by whether each is that of a fresh name
abbrev pub form_from : Kind → Bool → ℕ → Bool → ℕ → Bool → ℕ → Form
form_from kinds.N1 p a q b _ _ = forms.N1 (class_from p a) (class_from q b)
form_from kinds.N2 p a q b s c = forms.N2 (class_from p a) (class_from q b) (class_from s c)
form_from kinds.N3 p a _ r _ b = forms.N3 (class_from p a) (record { 0 = r }) (record { 0 = b })
form_from kinds.N4 _ r q a s b = forms.N4 (record { 0 = r }) (class_from q a) (class_from s b)
form_from kinds.N5 _ r _ s _ _ = forms.N5 (record { 0 = r }) (record { 0 = s })
form_from kinds.N6 p r q s o t = forms.N6 (property_from p r) (property_from q s) (property_from o t)
form_from kinds.N7 _ r _ _ _ _ = forms.N7 (record { 0 = r })
form_from kinds.N8 _ a q b _ _ = forms.N8 (record { 0 = a }) (class_from q b)
form_from kinds.N9 _ a _ r _ b = forms.N9 (record { 0 = a }) (record { 0 = r }) (record { 0 = b })
form_from kinds.N10 _ a _ b _ _ = forms.N10 (record { 0 = a }) (record { 0 = b })
form_from kinds.N12 _ a _ r _ b = forms.N12 (record { 0 = a }) (record { 0 = r }) (record { 0 = b })

abbrev pub form_of : StoredForm → Form
form_of s = form_from s.kind s.first_is_partial s.first s.second_is_partial s.second s.third_is_partial s.third

abbrev pub origin_of : StoredOrigin → Origin
origin_of o = if o.is_expression then origins.Expr (record { 0 = o.number }) else origins.Axiom o.number

-- an axiom past the 2^32-th
abbrev pub HasLargeNumber : Origin → Type 0
HasLargeNumber (origins.Axiom n) = 2 ^ 32 ≤ n
HasLargeNumber (origins.Expr _) = ⊥
