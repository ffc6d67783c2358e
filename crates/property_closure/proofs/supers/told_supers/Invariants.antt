use Rattle.std.proofs.Common.{◌≡◌, ◌↔◌, ℕ, length, take, Contains}
use Rattle.number_sets.specs.Pieces.{list_at}
use Rattle.property_closure.specs.Relations.{Tells}
use Rattle.property_closure.proofs.supers.told_supers.Given as goal

abbrev pub invariant-loop-form : goal.invariant-loop-form
invariant-loop-form l = record {
  long : length l.told ≡ l.properties;
  exact : (r s : ℕ) → Contains (list_at l.told r) s ↔ Tells (take l.form-index l.forms) r s;
}
