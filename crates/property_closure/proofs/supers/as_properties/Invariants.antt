use Rattle.std.proofs.Common.{◌≡◌, map, take}
use Rattle.property_closure.specs.Relations.{as_property}
use Rattle.property_closure.proofs.supers.as_properties.Given as goal

abbrev pub invariant-loop-number : goal.invariant-loop-number
invariant-loop-number l = l.properties.items ≡ map as_property (take l.number-index l.numbers)
