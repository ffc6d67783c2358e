-- What is there of the individuals of a list that makes each two of them differ.
use Rattle.std.specs.Prelude.{◌≡◌, ◌<◌, ◌≤◌, ℕ, List, slice_get, Some}
use Rattle.std.specs.BTreeMap.{BTreeMap, get}
use Rattle.std.specs.List.{Contains}
use Rattle.std.specs.Ordering.{nat_cmp}
use Rattle.axioms.specs.declared.ids.IndId.{IndId}
use Rattle.normal_forms.specs.declared.forms.Form.{Form}
use Rattle.facts.specs.declared.contexts.Context.TheVariants.{Individual}
use Rattle.facts.specs.declared.contexts.Fact.{Fact}
use Rattle.facts.specs.declared.contexts.Fact.TheVariants.{In}
use Rattle.facts.specs.Closure.{AreSame, nothing}

-- the one is the least of the individuals that are one with the other
pub record IsLeastOf (forms : List Form) (a least : IndId) : Type 0 where
  pub same : AreSame forms a least
  pub low : (b : IndId) → AreSame forms a b → least.0 ≤ b.0

-- of each group of individuals that are one, of which the list has one, the last place with one, by the number of the least of the group
pub record AreLastPlaces (forms : List Form) (list : List IndId) (last : BTreeMap ℕ ℕ) : Type 0 where
  pub each : (n : ℕ) (a least : IndId) → slice_get list n ≡ Some a → IsLeastOf forms a least → (m : ℕ) × (get nat_cmp last least.0 ≡ Some m) × n ≤ m
  pub only : (key m : ℕ) → get nat_cmp last key ≡ Some m → (b : IndId) × (slice_get list m ≡ Some b) × AreSame forms b (record { 0 = key })

-- an individual that is one with that at the place of the list is at a later place
pub record HasSameLater (forms : List Form) (list : List IndId) (place : ℕ) : Type 0 where
  pub later : ℕ
  pub first : IndId
  pub second : IndId
  pub below : place < later
  pub here : slice_get list place ≡ Some first
  pub there : slice_get list later ≡ Some second
  pub same : AreSame forms first second

-- owl:Nothing is in the individual at the place of the list, where one at a later place is one with it
abbrev pub IsDrawnAt : List Form → List IndId → List Fact → ℕ → Type 0
IsDrawnAt forms list facts place = HasSameLater forms list place → (a : IndId) → slice_get list place ≡ Some a → Contains facts (In nothing (Individual a))

-- .. at each place
abbrev pub AreDrawnIn : List Form → List IndId → List Fact → Type 0
AreDrawnIn forms list facts = (place : ℕ) → IsDrawnAt forms list facts place
