use Rattle.property_closure.specs.Chains.{ArePacked}
use Rattle.property_closure.proofs.chains.packed.Given as goal

abbrev pub invariant-loop-number : goal.invariant-loop-number
invariant-loop-number l = ArePacked l.lists l.number l.packed
