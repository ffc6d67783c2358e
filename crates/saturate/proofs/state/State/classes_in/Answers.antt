use Rattle.std.proofs.Common.{refl}
use Rattle.indexes.specs.FactIndex.{IsIn}
use Rattle.saturate.proofs.Exact.{exactly}
use Rattle.saturate.proofs.state.State.classes_in.Goals as goal

pub returns : goal.returns
returns g c = rw (← c.self.view_is) (exactly IsIn _ c.self.inside.queue c.self.inside.index.classes c.args.context c.classes_in.result.now c.without_hand.result.now refl c.self.invariant.1.by_context.classes c.without_hand.ensures.once c.classes_in.ensures c.without_hand.ensures.without)
