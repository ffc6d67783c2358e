-- What forms say of properties, by lists.
use Rattle.std.specs.Prelude.{◌≡◌, ℕ, ◌<◌, ◌⊎◌, ◌↔◌, Bool, true, List, length}
use Rattle.std.specs.List.{AllPairs, Contains}
use Rattle.axioms.specs.declared.ids.PropId.{PropId}
use Rattle.normal_forms.specs.declared.forms.PropId2.{PropId2}
use Rattle.normal_forms.specs.declared.forms.PropId2.TheVariants.{Property}
use Rattle.normal_forms.specs.declared.forms.Form.{Form}
use Rattle.normal_forms.specs.declared.forms.Form.TheVariants.{N5, N7}
use Rattle.normal_forms.specs.Properties.{ComesBefore, IsAtOrBelow}
use Rattle.number_sets.specs.Members.{has}
use Rattle.number_sets.specs.Pieces.{list_at}

abbrev pub as_id : ℕ → PropId
as_id p = record { 0 = p }

abbrev pub as_property : ℕ → PropId2
as_property p = Property (as_id p)

-- a plain form says that r is below s
abbrev pub Tells : List Form → ℕ → ℕ → Type 0
Tells forms r s = Contains forms (N5 (as_id r) (as_id s))

-- what plain forms name is below the bound
abbrev pub ArePlainWithin : ℕ → List Form → Type 0
ArePlainWithin bound forms = (r s : ℕ) → Tells forms r s → (r < bound) × (s < bound)

-- so is what forms say to be reflexive
abbrev pub AreReflexiveWithin : ℕ → List Form → Type 0
AreReflexiveWithin bound forms = (r : ℕ) → Contains forms (N7 (as_id r)) → r < bound

-- for each property below the bound those that the forms put directly above it
pub record IsAdjacency (bound : ℕ) (forms : List Form) (lists : List (List ℕ)) : Type 0 where
  pub long : length lists ≡ bound
  pub exact : (r s : ℕ) → Contains (list_at lists r) s ↔ Tells forms r s

-- p and those above it, ascending
pub record AreAbove (forms : List Form) (p : PropId2) (list : List PropId2) : Type 0 where
  pub ascending : AllPairs ComesBefore list
  pub exact : (q : PropId2) → Contains list q ↔ IsAtOrBelow forms p q

-- of the numbers below the bound of the set those of these properties were put into it
abbrev pub HasPut : List Bool → List PropId2 → List Bool → Type 0
HasPut old properties new = (p : ℕ) → p < length old → (has new p ≡ true) ↔ ((has old p ≡ true) ⊎ Contains properties (as_property p))
