use Rattle.std.proofs.Common.{◌≡◌, ◌+◌, ◌++◌, length}
use Rattle.certificate.specs.Held.{spread}
use Rattle.certificate.proofs.listed_runs.numbers_between.Given as goal

abbrev pub invariant-loop-rest : goal.invariant-loop-rest
invariant-loop-rest l = record {
  read : l.numbers.items ++ spread l.rest ≡ spread l.fn.ends;
  fewer : l.left + length l.numbers.items ≡ l.fn.left;
}

abbrev pub decreases-loop-rest : goal.decreases-loop-rest
decreases-loop-rest l = length l.rest
