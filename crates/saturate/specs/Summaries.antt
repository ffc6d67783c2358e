-- What forms come to, whatever the facts are, and which further forms leave it as it is.
use Rattle.std.specs.Prelude.{List}
use denote.Struct.Props as logic
use Rattle.normal_forms.specs.declared.forms.Form.{Form}
use Rattle.normal_forms.specs.declared.forms.Form.TheVariants.{N3, N4, N5, N6, N7, N9, N10}
use Rattle.normal_forms.specs.declared.forms.PropId2.TheVariants.{Property}
use Rattle.property_closure.specs.PropertyClosures.{Known, Has}
use Rattle.inference.specs.PropertyClosures.{IsClosureOf, IsClosureOf-prop}
use Rattle.inference.specs.Sameness.{AreGroupsOf, AreGroupsOf-prop}
use Rattle.inference.specs.declared.joins.Joins.{Joins}
use Rattle.inference.specs.Joins.{AreJoins, AreJoins-prop, HasMask}
use Rattle.saturate.specs.declared.summary.Summary.{Summary}

-- the summary has what the forms say of properties, which individuals they make one, and which edges their chains join
pub record IsSummaryOf (forms : List Form) (summary : Summary) : Type 0 where
  pub closure : IsClosureOf forms summary.closure.value
  pub groups : AreGroupsOf forms summary.groups.value
  pub joins : AreJoins forms summary.joins.value

-- that has one proof at most, so rules may keep it
pub IsSummaryOf-prop : (forms : List Form) (summary : Summary) → IsProp (IsSummaryOf forms summary)
IsSummaryOf-prop forms summary = Prim.hlevel (logic.props, IsClosureOf-prop, AreGroupsOf-prop, AreJoins-prop)

-- the form is not of properties, and what it puts on edges the closure has
abbrev pub LeavesClosure : Known → Form → Type 0
LeavesClosure closure (N3 a r b) = Has closure (Property r)
LeavesClosure closure (N5 r s) = ⊥
LeavesClosure closure (N6 r s t) = ⊥
LeavesClosure closure (N7 r) = ⊥
LeavesClosure closure (N9 i r j) = Has closure (Property r)
LeavesClosure closure _ = Unit {0}

-- the form makes no individuals one
abbrev pub LeavesGroups : Form → Type 0
LeavesGroups (N10 i j) = ⊥
LeavesGroups _ = Unit {0}

-- the form is no chain and no restriction, and a property that it puts below another has no mask, and the closure does not have it
abbrev pub LeavesJoins : Known → Joins → Form → Type 0
LeavesJoins closure joins (N4 r a b) = ⊥
LeavesJoins closure joins (N5 r s) = ¬ HasMask joins r.0 × ¬ Has closure (Property r)
LeavesJoins closure joins (N6 r s t) = ⊥
LeavesJoins closure joins _ = Unit {0}

-- the form is no restriction
abbrev pub LeavesFillers : Form → Type 0
LeavesFillers (N4 r a b) = ⊥
LeavesFillers _ = Unit {0}
