use Rattle.indexes.proofs.Order.{AreInOrderTo}
use Rattle.indexes.proofs.lists.put_all_in_order.Given as goal

abbrev pub invariant-loop-key : goal.invariant-loop-key
invariant-loop-key l = AreInOrderTo l.forms l.starts l.fn.numbers l.numbers l.key
