use Rattle.std.proofs.Common.{◌≡◌, ℕ, take, map, length, true}
use Rattle.certificate.specs.View.{pair_row_of}
use Rattle.number_sets.specs.Members.{has}
use Rattle.listed_model.specs.Members.{holds}
use Rattle.listed_model.specs.WideRows.{LeadsInto}
use Rattle.listed_model.proofs.transitive.TransitivityTest.lead_into.Given as goal

abbrev pub invariant-loop-number : goal.invariant-loop-number
invariant-loop-number l = record {
  len : length l.covered ≡ length l.members;
  covered : (y : ℕ) → has l.covered y ≡ true → LeadsInto (map pair_row_of l.self.rows.now) l.self.property.0 l.members y;
  into : (y : ℕ) → holds (take l.number-index l.numbers) y ≡ true → LeadsInto (map pair_row_of l.self.rows.now) l.self.property.0 l.members y;
}
