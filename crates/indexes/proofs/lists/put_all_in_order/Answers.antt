use Rattle.std.proofs.Common.{◌-◌, arith}
use Rattle.indexes.proofs.Order.{all_in_order, in_order_more, none_in_order}
use Rattle.indexes.proofs.lists.put_all_in_order.Goals as goal

pub loop-key-init : goal.loop-key-init
loop-key-init c = none_in_order c.args.forms.now c.args.starts.now c.args.numbers.now

pub loop-key-preserved : goal.loop-key-preserved
loop-key-preserved c = in_order_more c.args.forms.now c.args.starts.now c.args.numbers.now c.loop-key.numbers c.put_in_order.new.numbers (c.loop-key.key - 1) c.loop-key.key (omega (arith, c.loop-key.auto.key)) c.requires c.loop-key-test.true c.loop-key.invariant c.put_in_order.ensures.same c.put_in_order.ensures.order

pub returns-clause-order : goal.returns-clause-order
returns-clause-order c = all_in_order c.args.forms.now c.args.starts.now c.args.numbers.now c.loop-key.numbers c.loop-key.key c.loop-key-test.false c.loop-key.invariant
