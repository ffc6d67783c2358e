use Rattle.std.proofs.Common.{◌≡◌, take}
use Rattle.indexes.proofs.changed_lists.copies.Given as goal

abbrev pub invariant-loop-list : goal.invariant-loop-list
invariant-loop-list l = l.copy.items ≡ take l.list-index l.changed
