use Rattle.saturate.proofs.Turns.{names_fact}
use Rattle.saturate.proofs.order.next.Goals as goal

pub ahead-requires : goal.ahead-requires
ahead-requires g c = names_fact c.args.facts.now c.requires c.loop.invariant
