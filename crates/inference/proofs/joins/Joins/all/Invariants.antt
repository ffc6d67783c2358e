use Rattle.std.proofs.Common.{◌≡◌, length}
use Rattle.inference.specs.Joins.{AreJoins}
use Rattle.inference.proofs.joins.Joins.all.Given as goal

abbrev pub invariant-loop-number : goal.invariant-loop-number
invariant-loop-number l = record {
  are : AreJoins l.problem.forms l.joins;
  seconds : length l.joins.seconds.items ≡ l.number;
  ends : length l.joins.ends.items ≡ l.number;
  above : length l.joins.above.items ≡ l.number;
}
