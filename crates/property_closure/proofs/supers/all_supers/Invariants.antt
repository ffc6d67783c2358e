use Rattle.std.proofs.Common.{◌≡◌, ℕ, ◌<◌, length}
use Rattle.number_sets.specs.Pieces.{list_at}
use Rattle.property_closure.specs.Relations.{AreAbove, as_property}
use Rattle.property_closure.proofs.supers.all_supers.Given as goal

abbrev pub invariant-loop-property : goal.invariant-loop-property
invariant-loop-property l = record {
  long : length l.supers ≡ l.property;
  wide : length l.search.seen ≡ length l.told;
  each : (p : ℕ) → p < l.property → AreAbove l.forms (as_property p) (list_at l.supers p);
}
