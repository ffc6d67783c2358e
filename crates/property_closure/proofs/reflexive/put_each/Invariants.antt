use Rattle.std.proofs.Common.{◌≡◌, length, take}
use Rattle.property_closure.specs.Relations.{HasPut}
use Rattle.property_closure.proofs.reflexive.put_each.Given as goal

abbrev pub invariant-loop-property : goal.invariant-loop-property
invariant-loop-property l = record {
  long : length l.set ≡ length l.fn.set;
  each : HasPut l.fn.set (take l.property-index l.properties) l.set;
}
