use Rattle.saturate.proofs.Turns.{led_none, led_some}
use Rattle.saturate.proofs.order.ahead.Goals as goal

pub returns-clause-some : goal.returns-clause-some
returns-clause-some g c = led_some c.set_back.result (g.W.WorkList.pending c.set_back.new.list) c.args.item c.lead_to.ensures.same c.set_back.ensures.some

pub returns-clause-none : goal.returns-clause-none
returns-clause-none g c = led_none c.set_back.result (g.W.WorkList.pending c.set_back.new.list) c.args.item c.lead_to.ensures.same c.set_back.ensures.none
