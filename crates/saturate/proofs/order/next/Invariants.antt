use Rattle.work_list.specs.Bag.{Adds}
use Rattle.saturate.proofs.order.next.Given as goal

abbrev pub invariant-loop : goal.invariant-loop
invariant-loop g l = Adds l.item (g.W.WorkList.pending l.list) (g.W.WorkList.pending l.fn.list)
