use Rattle.std.proofs.Common.{Contains}
use Rattle.listed_model.proofs.tester.Tester.least_operand.Given as goal

abbrev pub invariant-loop-operand : goal.invariant-loop-operand
invariant-loop-operand l = Contains l.operands l.least
