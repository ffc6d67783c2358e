use Rattle.std.proofs.Common.{◌-◌, ◌+◌, length}
use Rattle.indexes.proofs.Pairing.{AreAhead}
use Rattle.indexes.proofs.disjoint.list_with.Given as goal

abbrev pub invariant-loop-first : goal.invariant-loop-first
invariant-loop-first l = AreAhead l.operands l.firsts l.seconds l.first l.second

abbrev pub decreases-loop-first : goal.decreases-loop-first
decreases-loop-first l = (length l.firsts - l.first) + (length l.seconds - l.second)
