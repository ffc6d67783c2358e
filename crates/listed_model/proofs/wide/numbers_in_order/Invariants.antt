use Rattle.std.proofs.Common.{◌≡◌, take}
use Rattle.axioms.specs.View.{prop_numbers}
use Rattle.listed_model.proofs.wide.numbers_in_order.Given as goal

abbrev pub invariant-loop-property : goal.invariant-loop-property
invariant-loop-property l = l.numbers.items ≡ prop_numbers (take l.property-index l.properties)
