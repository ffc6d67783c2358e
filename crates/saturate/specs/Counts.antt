-- How many properties and prefixes of chains there are.
use Rattle.std.specs.Prelude.{ℕ, ◌<◌, ◌≤◌, ◌^◌, List, slice_get, Some, ◌≡◌}
use Rattle.normal_forms.specs.declared.forms.PropId2.{PropId2}
use Rattle.normal_forms.specs.declared.forms.Form.{Form}
use Rattle.normal_forms.specs.Properties.{IsPropertyOf, IsPropertyFormOf}
use Rattle.inference.specs.PropertyClosures.{PutsOnEdges}
use Rattle.saturate.specs.declared.counts.Counts.{Counts}

-- what numbers of 32 bits can count
pub record IsSmall (c : Counts) : Type 0 where
  pub properties : c.properties ≤ 2 ^ 32
  pub partials : c.partials ≤ 2 ^ 32

pub record IsMore (old new : Counts) : Type 0 where
  pub properties : old.properties ≤ new.properties
  pub partials : old.partials ≤ new.partials

abbrev pub HasProperty : Counts → PropId2 → Type 0
HasProperty c p = IsPropertyOf c.properties c.partials p

-- what the form says of properties is of those that are there, and so is what it puts on edges
pub record HasNames (c : Counts) (form : Form) : Type 0 where
  pub named : IsPropertyFormOf c.properties c.partials form
  pub edges : (p : PropId2) → PutsOnEdges form p → HasProperty c p

-- what each of the first k forms says of properties is of those that are there, and so is what it puts on edges
abbrev pub HasNamesBelow : Counts → List Form → ℕ → Type 0
HasNamesBelow c forms k = (n : ℕ) → n < k → (form : Form) → slice_get forms n ≡ Some form → HasNames c form
