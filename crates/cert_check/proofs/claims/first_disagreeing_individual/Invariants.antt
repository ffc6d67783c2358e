use Rattle.std.proofs.Common.{◌≡◌, ℕ, ◌<◌, length}
use Rattle.cert_check.specs.Lists.{ElementAgrees}
use Rattle.cert_check.proofs.claims.first_disagreeing_individual.Given as goal

abbrev pub invariant-loop-individual : goal.invariant-loop-individual
invariant-loop-individual l = record {
  long : length l.set ≡ length l.initial.set;
  before : (k : ℕ) → k < l.individual → ElementAgrees l.types l.elements l.holding k;
}
