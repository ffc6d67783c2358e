use Rattle.std.proofs.Common.{arith}
use Rattle.shapes.proofs.Stating.{not_so_many}
use Rattle.shapes.proofs.statement.one.Goals as goal
use Rattle.shapes.proofs.statement.one.Goals.{in_default-via-then-operands-lt1, in_default-via-else-operands-lt1+else-operands-lt2}

pub returns-in_default-clause-none : goal.returns-in_default-clause-none
returns-in_default-clause-none c =
    not_so_many 1 c.args.operands.now (λ long. elim c.in_default.branch [ in_default-via-then-operands-lt1 w ↦ grind (arith, long) | in_default-via-else-operands-lt1+else-operands-lt2 w ↦ grind (arith, long) ])
