use Rattle.std.proofs.Common.{◌≡◌, ℕ, take, map, length, true}
use Rattle.certificate.specs.View.{pair_row_of}
use Rattle.number_sets.specs.Members.{has}
use Rattle.listed_model.specs.Members.{holds}
use Rattle.listed_model.specs.Rows.{LeadsWithin}
use Rattle.listed_model.proofs.transitive.TransitivityTest.leads_within.Given as goal

abbrev pub invariant-loop-number : goal.invariant-loop-number
invariant-loop-number l = record {
  len : length l.covered ≡ length l.fn.covered;
  covered : (y : ℕ) → has l.covered y ≡ true → LeadsWithin (map pair_row_of l.self.rows.now) l.self.property.0 l.targets y;
  within : (y : ℕ) → holds (take l.number-index l.numbers) y ≡ true → LeadsWithin (map pair_row_of l.self.rows.now) l.self.property.0 l.targets y;
}
