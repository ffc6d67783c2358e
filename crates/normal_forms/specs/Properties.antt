-- What forms say of properties: which lie below which, which are reflexive, and which chains there are.
use Rattle.std.specs.Prelude.{◌≡◌, ℕ, ◌<◌, ◌⊎◌, List, Bool, true, false}
use Rattle.std.specs.List.{Contains, filter}
use Rattle.axioms.specs.declared.ids.PropId.{PropId}
use Rattle.normal_forms.specs.declared.forms.PropId2.{PropId2}
use Rattle.normal_forms.specs.declared.forms.PropId2.TheVariants.{Property, Partial}
use Rattle.normal_forms.specs.declared.forms.Form.{Form}
use Rattle.normal_forms.specs.declared.forms.Form.TheVariants.{N5, N6, N7}

-- r is s or below it: a path of plain property forms leads there, also of no step
pub data IsAtOrBelow (forms : List Form) : PropId2 → PropId2 → Type 0 where
  same : {r : PropId2} → IsAtOrBelow forms r r
  step : {r : PropId2} (s t : PropId) → IsAtOrBelow forms r (Property s) → Contains forms (N5 s t) → IsAtOrBelow forms r (Property t)

-- r is declared reflexive, or a property below it is
abbrev pub IsReflexive : List Form → PropId2 → Type 0
IsReflexive forms r = (q : PropId) × Contains forms (N7 q) × IsAtOrBelow forms (Property q) r

-- a form says that r and then the first of these is below the second
abbrev pub IsChainFrom : List Form → PropId2 → PropId2 × PropId2 → Type 0
IsChainFrom forms r chain = Contains forms (N6 r chain.0 chain.1)

-- a property below the first number, or a prefix of chains below the second
abbrev pub IsPropertyOf : ℕ → ℕ → PropId2 → Type 0
IsPropertyOf properties partials (Property p) = p.0 < properties
IsPropertyOf properties partials (Partial n) = n < partials

-- every property comes before every prefix of chains, and of one kind the smaller number comes first
abbrev pub ComesBefore : PropId2 → PropId2 → Type 0
ComesBefore (Property p) (Property q) = p.0 < q.0
ComesBefore (Property p) (Partial n) = Unit {0}
ComesBefore (Partial m) (Property q) = ⊥
ComesBefore (Partial m) (Partial n) = m < n

-- of two chains from one property the one whose next property comes first, then whose property above does
abbrev pub ChainComesBefore : PropId2 × PropId2 → PropId2 × PropId2 → Type 0
ChainComesBefore c d = ComesBefore c.0 d.0 ⊎ ((c.0 ≡ d.0) × ComesBefore c.1 d.1)

-- the form is of properties alone
abbrev pub is_property_form : Form → Bool
is_property_form (N5 r s) = true
is_property_form (N6 r s t) = true
is_property_form (N7 r) = true
is_property_form _ = false

abbrev pub property_forms : List Form → List Form
property_forms forms = filter is_property_form forms

-- what a form of properties names is there
abbrev pub IsPropertyFormOf : ℕ → ℕ → Form → Type 0
IsPropertyFormOf properties partials (N5 r s) = (r.0 < properties) × (s.0 < properties)
IsPropertyFormOf properties partials (N6 r s t) = IsPropertyOf properties partials r × IsPropertyOf properties partials s × IsPropertyOf properties partials t
IsPropertyFormOf properties partials (N7 r) = r.0 < properties
IsPropertyFormOf properties partials _ = Unit {0}
