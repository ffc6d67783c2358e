use Rattle.property_closure.specs.Growth.{AreRaised}
use Rattle.property_closure.proofs.shared_lists.SharedLists.raise.Given as goal

abbrev pub invariant-loop-k : goal.invariant-loop-k
invariant-loop-k l = AreRaised l.sub l.sup l.above l.k l.fn.self l.self
