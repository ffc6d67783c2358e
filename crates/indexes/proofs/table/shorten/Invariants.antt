use Rattle.std.proofs.Common.{◌≡◌, length, take}
use Rattle.indexes.proofs.table.shorten.Given as goal

abbrev pub invariant-loop-list : goal.invariant-loop-list
invariant-loop-list l = take l.length l.list ≡ take l.length l.fn.list

abbrev pub decreases-loop-list : goal.decreases-loop-list
decreases-loop-list l = length l.list
