use Rattle.std.proofs.Common.{Contains, take}
use Rattle.indexes.specs.declared.disjoint.Operand.{Operand}
use Rattle.inference.proofs.Parting.{IsNotIn}
use Rattle.inference.proofs.apart.find_operand.Given as goal

abbrev pub invariant-loop-operand : goal.invariant-loop-operand
invariant-loop-operand l = (o : Operand) → Contains (take l.operand-index l.operands) o → IsNotIn l.facts.facts l.context o
