-- A table whose entries lead down.
use Rattle.std.specs.Prelude.{◌≡◌, ◌≤◌, ℕ, List, length, slice_get, Some}
use Rattle.std.specs.List.{Contains}
use Rattle.axioms.specs.declared.ids.IndId.{IndId}
use Rattle.normal_forms.specs.declared.forms.Form.{Form}
use Rattle.facts.specs.Closure.{AreSame, Links}

-- no entry is above its place
abbrev pub LeadDown : List ℕ → Type 0
LeadDown t = (x y : ℕ) → slice_get t x ≡ Some y → y ≤ x

-- entries lead from x to z
pub data Leads (t : List ℕ) : ℕ → ℕ → Type 0 where
  stay : {x : ℕ} → Leads t x x
  step : {x z : ℕ} (y : ℕ) → slice_get t x ≡ Some y → Leads t y z → Leads t x z

-- .. where the last is its own entry
pub record IsRootOf (t : List ℕ) (x z : ℕ) : Type 0 where
  pub leads : Leads t x z
  pub root : slice_get t z ≡ Some z

abbrev pub HaveOneRoot : List ℕ → ℕ → ℕ → Type 0
HaveOneRoot t x y = (z : ℕ) × IsRootOf t x z × IsRootOf t y z

-- each entry is one with its place
abbrev pub AreEntriesSame : List Form → List ℕ → Type 0
AreEntriesSame forms t = (x y : ℕ) → slice_get t x ≡ Some y → AreSame forms (record { 0 = x }) (record { 0 = y })

-- each number leads to what it led to
pub record Shortens (old new : List ℕ) : Type 0 where
  pub long : length new ≡ length old
  pub down : LeadDown new
  pub roots : (x z : ℕ) → IsRootOf old x z → IsRootOf new x z
  pub sound : (forms : List Form) → AreEntriesSame forms old → AreEntriesSame forms new

-- what led to one still does, and so do these two
pub record Joins (old new : List ℕ) (a b : ℕ) : Type 0 where
  pub long : length new ≡ length old
  pub down : LeadDown new
  pub stays : (x y : ℕ) → HaveOneRoot old x y → HaveOneRoot new x y
  pub one : HaveOneRoot new a b
  pub sound : (forms : List Form) → AreEntriesSame forms old → AreSame forms (record { 0 = a }) (record { 0 = b }) → AreEntriesSame forms new

-- .. and so do the two that the form makes one
pub record JoinsBy (old new : List ℕ) (form : Form) : Type 0 where
  pub long : length new ≡ length old
  pub down : LeadDown new
  pub stays : (x y : ℕ) → HaveOneRoot old x y → HaveOneRoot new x y
  pub one : (i j : IndId) → Links form i j → HaveOneRoot new i.0 j.0
  pub sound : (forms : List Form) → AreEntriesSame forms old → Contains forms form → AreEntriesSame forms new

-- each place has itself
abbrev pub IsAlone : List ℕ → Type 0
IsAlone t = (x y : ℕ) → slice_get t x ≡ Some y → x ≡ y
