-- What stands of chains for each property, and of restrictions for each property and class.
use Rattle.std.specs.Prelude.{◌≡◌, ◌<◌, ◌⊎◌, ℕ, List, length, slice_get, Some}
use denote.Struct.Props as logic
use Rattle.normal_forms.specs.declared.forms.Form.{Form}
use Rattle.normal_forms.specs.declared.forms.PropId2.TheVariants.{Property}
use Rattle.normal_forms.specs.declared.forms.Class2.TheVariants.{Expr}
use Rattle.inference.specs.declared.fillers.Fillers.{Fillers}
use Rattle.inference.specs.declared.joins.Joins.{Joins}
use Rattle.inference.specs.Plans.{ArePlans}
use Rattle.inference.specs.Visits.{AreSpared}
use Rattle.inference.specs.Marks.{HasSeconds, HasEnds, HasAbove, HasFilled, AreRestrictions}

-- each mask has the bits of the restrictions that the expression whose number is its place fills, and the lists are those of the restrictions on each
-- property
pub record AreFillers (forms : List Form) (fillers : Fillers) : Type 0 where
  pub filled : (n mask : ℕ) → slice_get fillers.filled.items n ≡ Some mask → HasFilled forms mask (Expr (record { 0 = n }))
  pub restrictions : AreRestrictions forms fillers.restrictions

-- each mask has the bits that the property whose number is its place may be joined by, as the first, and as the second of two, and those at or
-- above it; the plans are those of the properties whose numbers are their places; and the row has chains of which no chain needs what they give
pub record AreJoins (forms : List Form) (joins : Joins) : Type 0 where
  pub seconds : (n mask : ℕ) → slice_get joins.seconds.items n ≡ Some mask → HasSeconds forms mask (Property (record { 0 = n }))
  pub ends : (n mask : ℕ) → slice_get joins.ends.items n ≡ Some mask → HasEnds forms mask (Property (record { 0 = n }))
  pub above : (n mask : ℕ) → slice_get joins.above.items n ≡ Some mask → HasAbove forms mask (Property (record { 0 = n }))
  pub plans : ArePlans forms joins.plans
  pub spared : AreSpared forms joins.spared
  pub fillers : AreFillers forms joins.fillers.value

AreFillers-prop : (forms : List Form) (fillers : Fillers) → IsProp (AreFillers forms fillers)
AreFillers-prop forms fillers = Prim.hlevel logic.props

pub AreJoins-prop : (forms : List Form) (joins : Joins) → IsProp (AreJoins forms joins)
AreJoins-prop forms joins = Prim.hlevel (logic.props, AreFillers-prop)

-- the property of that number has a mask or a plan
abbrev pub HasMask : Joins → ℕ → Type 0
HasMask joins n = (n < length joins.seconds.items) ⊎ (n < length joins.ends.items) ⊎ (n < length joins.above.items) ⊎ (n < length joins.plans)
