use Rattle.std.proofs.Common.{refl, arith}
use Rattle.shapes.proofs.Stating.{many_there, not_many}
use Rattle.shapes.proofs.statement.many.Goals as goal

pub returns-then-operands-gt1-clause-some : goal.returns-then-operands-gt1-clause-some
returns-then-operands-gt1-clause-some c = (refl, many_there c.args.operands.now (omega (arith, c.if-operands-gt1.true)))

pub returns-else-operands-gt1-clause-none : goal.returns-else-operands-gt1-clause-none
returns-else-operands-gt1-clause-none c = not_many c.args.operands.now (omega (arith, c.if-operands-gt1.false))
