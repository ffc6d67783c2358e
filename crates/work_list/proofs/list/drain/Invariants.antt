use Rattle.std.proofs.Common.{◌≡◌, ◌+◌, ◌≤◌, length, vec_capacity}
use Rattle.work_list.specs.declared.item.Item.{Item}
use Rattle.work_list.specs.Bag.{often}
use Rattle.work_list.proofs.list.drain.Given as goal

abbrev pub invariant-loop-item : goal.invariant-loop-item
invariant-loop-item g l =
    ((y : Item) → often l.popped.items y + often (g.W.WorkList.pending l.list) y ≡ often (g.W.WorkList.pending l.fn.list) y)
    × (length l.popped.items + length (g.W.WorkList.pending l.list) ≡ length (g.W.WorkList.pending l.fn.list))
    × (length (g.W.WorkList.pending l.fn.list) ≤ vec_capacity l.popped)

abbrev pub decreases-loop-item : goal.decreases-loop-item
decreases-loop-item g l = length (g.W.WorkList.pending l.list)
