use Rattle.std.proofs.Common.{◌≡◌, ◌≤◌, length, vec_capacity}
use Rattle.property_closure.specs.PropertyClosures.{AreProperties}
use Rattle.property_closure.proofs.closure.add_properties.Given as goal

abbrev pub invariant-loop-number : goal.invariant-loop-number
invariant-loop-number l = record {
  each : AreProperties l.list.items;
  long : length l.list.items ≡ l.number;
  room : l.n ≤ vec_capacity l.list;
}
