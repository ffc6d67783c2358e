use Rattle.std.proofs.Common.{◌≡◌, ◌++◌, take}
use Rattle.narrowing.specs.Points.{within, claim_points}
use Rattle.narrowing.proofs.starts.add_claim_points.Given as goal

abbrev pub invariant-loop-claim : goal.invariant-loop-claim
invariant-loop-claim l = l.starts.items ≡ l.fn.starts.items ++ within l.domain (claim_points (take l.claim-index l.claims))
