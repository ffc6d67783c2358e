use Rattle.std.proofs.Common.{take}
use Rattle.narrowing.specs.Gathered.{claim_elements}
use Rattle.narrowing.proofs.Marking.{IsMarked}
use Rattle.narrowing.proofs.marks.mark_claims.Given as goal

abbrev pub invariant-loop-claim : goal.invariant-loop-claim
invariant-loop-claim l = IsMarked l.fn.row (claim_elements (take l.claim-index l.claims)) l.row
