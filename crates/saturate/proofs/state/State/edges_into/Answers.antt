use Rattle.std.proofs.Common.{refl}
use Rattle.indexes.specs.FactIndex.{IsInto}
use Rattle.saturate.proofs.Exact.{exactly}
use Rattle.saturate.proofs.state.State.edges_into.Goals as goal

pub returns : goal.returns
returns g c = rw (← c.self.view_is) (exactly IsInto _ c.self.inside.queue c.self.inside.index.into c.args.context c.edges_into.result.now c.without_hand.result.now refl c.self.invariant.1.by_context.into c.without_hand.ensures.once c.edges_into.ensures c.without_hand.ensures.without)
