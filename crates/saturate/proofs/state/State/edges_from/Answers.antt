use Rattle.std.proofs.Common.{refl}
use Rattle.indexes.specs.FactIndex.{IsFrom}
use Rattle.saturate.proofs.Exact.{exactly}
use Rattle.saturate.proofs.state.State.edges_from.Goals as goal

pub returns : goal.returns
returns g c = rw (← c.self.view_is) (exactly IsFrom _ c.self.inside.queue c.self.inside.index.from c.args.context c.edges_from.result.now c.without_hand.result.now refl c.self.invariant.1.by_context.from c.without_hand.ensures.once c.edges_from.ensures c.without_hand.ensures.without)
