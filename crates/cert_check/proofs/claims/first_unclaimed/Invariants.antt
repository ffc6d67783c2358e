use Rattle.std.proofs.Common.{ℕ, ◌<◌}
use Rattle.cert_check.specs.Lists.{IsClaimed}
use Rattle.cert_check.proofs.claims.first_unclaimed.Given as goal

abbrev pub invariant-loop-class : goal.invariant-loop-class
invariant-loop-class l = (k : ℕ) → k < l.class → IsClaimed l.above l.claimed k
