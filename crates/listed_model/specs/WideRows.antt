-- Rows with many targets, as sets of numbers.
use Rattle.std.specs.Prelude.{◌≡◌, ℕ, List, Bool, true, length, All}
use Rattle.number_sets.specs.Members.{has}
use Rattle.listed_model.specs.declared.wide.WideRow.{WideRow}
use Rattle.listed_model.specs.Listing.{targets_of}
use Rattle.listed_model.specs.Members.{holds}
use Rattle.listed_model.specs.Rows.{LeadsWithin}

-- the set has the targets of the row's property and source
abbrev pub HasTargets : List (ℕ × ℕ × List ℕ) → WideRow → Type 0
HasTargets rows w = (y : ℕ) → has w.targets y ≡ holds (targets_of rows w.property.0 w.source) y

-- so has each, and all are sets of numbers below n
pub record AreWide (rows : List (ℕ × ℕ × List ℕ)) (n : ℕ) (wide : List WideRow) : Type 0 where
  pub each : All (HasTargets rows) wide
  pub long : All (λ w. length w.targets ≡ n) wide

-- from y the property leads to nothing but members of the set
abbrev pub LeadsInto : List (ℕ × ℕ × List ℕ) → ℕ → List Bool → ℕ → Type 0
LeadsInto rows r members y = (z : ℕ) → holds (targets_of rows r y) z ≡ true → has members z ≡ true

-- from the targets it leads to nothing but the targets
abbrev pub AreClosed : List (ℕ × ℕ × List ℕ) → ℕ → List ℕ → Type 0
AreClosed rows r targets = (y : ℕ) → holds targets y ≡ true → LeadsWithin rows r targets y
