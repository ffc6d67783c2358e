use Rattle.std.proofs.Common.{◌≤◌}
use Rattle.listed_model.proofs.tester.Tester.+breadth.Given as goal

abbrev pub decreases-breadth : goal.decreases-breadth
decreases-breadth l = l.expression.0

abbrev pub invariant-loop-operand : goal.invariant-loop-operand
invariant-loop-operand l = l.least ≤ l.bound
