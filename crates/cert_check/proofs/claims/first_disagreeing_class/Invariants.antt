use Rattle.std.proofs.Common.{◌≡◌, ℕ, ◌<◌, length}
use Rattle.cert_check.specs.Lists.{ClaimAgrees}
use Rattle.cert_check.proofs.claims.first_disagreeing_class.Given as goal

abbrev pub invariant-loop-class : goal.invariant-loop-class
invariant-loop-class l = record {
  long : length l.set ≡ length l.initial.set;
  before : (k : ℕ) → k < l.class → ClaimAgrees l.above l.claimed l.holding k;
}
