use Rattle.std.proofs.Common.{◌≡◌, ◌++◌, take}
use Rattle.indexes.proofs.table.push_copies.Given as goal

abbrev pub invariant-loop-list : goal.invariant-loop-list
invariant-loop-list l = l.packed ≡ l.fn.packed ++ take l.list-index l.lists
