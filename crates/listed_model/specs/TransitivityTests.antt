-- What it is tested over whether a property is transitive.
use Rattle.std.specs.Prelude.{◌≡◌, ℕ, map, true}
use Rattle.certificate.specs.View.{pair_row_of}
use Rattle.number_sets.specs.Members.{has}
use Rattle.listed_model.specs.Rows.{ClosedAt}
use Rattle.listed_model.specs.declared.transitive.TransitivityTest.{TransitivityTest}

-- from what is done the property leads in one step to all that it leads to in two
abbrev pub AreDone : TransitivityTest → Type 0
AreDone t = (y : ℕ) → has t.done.now y ≡ true → ClosedAt (map pair_row_of t.rows.now) t.property.0 y
