-- The faults of the examples, by computing them.
use Rattle.std.proofs.Common.{refl}
use Rattle.shapes.specs.Examples.{EachVersionHasItsOwn, EveryFaultIsTold, OrderIsTold, RepeatedOperandIsTold}
use Rattle.shapes.specs.Keywords.{is_known, is_refused}

pub every_fault : EveryFaultIsTold
unfolding is_known is_refused
every_fault = refl

pub repeated_operand : RepeatedOperandIsTold
unfolding is_known is_refused
repeated_operand = refl

pub order : OrderIsTold
unfolding is_known is_refused
order = refl

pub versions : EachVersionHasItsOwn
unfolding is_known is_refused
versions = (refl, refl)
