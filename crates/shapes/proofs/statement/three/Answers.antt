use Rattle.std.proofs.Common.{arith}
use Rattle.shapes.proofs.Stating.{not_so_many}
use Rattle.shapes.proofs.statement.three.Goals as goal
use Rattle.shapes.proofs.statement.three.Goals.{in_default-via-then-operands-lt3, in_default-via-else-operands-lt3+else-operands-lt4}

pub returns-in_default-clause-none : goal.returns-in_default-clause-none
returns-in_default-clause-none c =
    not_so_many 3 c.args.operands.now (λ long. elim c.in_default.branch [ in_default-via-then-operands-lt3 w ↦ grind (arith, long) | in_default-via-else-operands-lt3+else-operands-lt4 w ↦ grind (arith, long) ])
