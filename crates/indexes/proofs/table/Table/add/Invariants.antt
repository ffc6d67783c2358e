use Rattle.std.proofs.Common.{◌-◌, ◌+◌, length}
use Rattle.indexes.specs.Tables.{IsSame}
use Rattle.indexes.proofs.table.Table.add.Given as goal

abbrev pub invariant-loop-self : goal.invariant-loop-self
invariant-loop-self l = IsSame l.fn.self l.self

abbrev pub decreases-loop-self : goal.decreases-loop-self
decreases-loop-self l = l.key + 1 - length l.self
