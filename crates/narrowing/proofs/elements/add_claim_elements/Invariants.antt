use Rattle.std.proofs.Common.{◌≡◌, ◌++◌, take}
use Rattle.narrowing.specs.Gathered.{claim_elements}
use Rattle.narrowing.proofs.elements.add_claim_elements.Given as goal

abbrev pub invariant-loop-claim : goal.invariant-loop-claim
invariant-loop-claim l = l.elements.items ≡ l.fn.elements.items ++ claim_elements (take l.claim-index l.claims)
