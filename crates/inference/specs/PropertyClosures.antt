-- Which closure of properties goes with forms.
use Rattle.std.specs.Prelude.{◌≡◌, List}
use denote.Struct.Props as logic
use Rattle.std.specs.List.{Contains}
use Rattle.normal_forms.specs.declared.forms.PropId2.{PropId2}
use Rattle.normal_forms.specs.declared.forms.PropId2.TheVariants.{Property, Partial}
use Rattle.normal_forms.specs.declared.forms.Form.{Form}
use Rattle.normal_forms.specs.declared.forms.Form.TheVariants.{N3, N6, N7, N9}
use Rattle.normal_forms.specs.Properties.{property_forms}
use Rattle.property_closure.specs.PropertyClosures.{Known, Has}

-- the form puts the property on edges
abbrev pub PutsOnEdges : Form → PropId2 → Type 0
PutsOnEdges (N3 a r b) p = p ≡ Property r
PutsOnEdges (N6 r s t) p = p ≡ t
PutsOnEdges (N7 r) p = p ≡ Property r
PutsOnEdges (N9 i r j) p = p ≡ Property r
PutsOnEdges _ p = ⊥

-- the closure is that of the forms, and has each property that they put on edges
pub record IsClosureOf (forms : List Form) (closure : Known) : Type 0 where
  pub same : closure.forms ≡ property_forms forms
  pub has : (form : Form) → Contains forms form → (p : PropId2) → PutsOnEdges form p → Has closure p

-- that has one proof at most, so rules may keep it
has_prop : (k : Known) (p : PropId2) → IsProp (Has k p)
has_prop k (Property p) = Prim.hlevel logic.props
has_prop k (Partial n) = Prim.hlevel logic.props

pub IsClosureOf-prop : (forms : List Form) (closure : Known) → IsProp (IsClosureOf forms closure)
IsClosureOf-prop forms closure = Prim.hlevel (logic.props, has_prop)
