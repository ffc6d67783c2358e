use Rattle.saturate.proofs.Shifting.{few_then, all_then, once_then}
use Rattle.saturate.proofs.queue.Queue.all_served.Goals as goal

pub returns-clause-once : goal.returns-clause-once
returns-clause-once g c = rw (← c.self.view_is) (once_then c.self.inside.settled c.self.inside.taken.items c.self.inside.served c.self.invariant)

pub returns-clause-few : goal.returns-clause-few
returns-clause-few g c = rw (← c.self.view_is) (few_then c.self.inside.settled c.self.inside.taken.items c.self.inside.served c.self.invariant)

pub returns-clause-all : goal.returns-clause-all
returns-clause-all g c = rw (← c.self.view_is) (all_then c.self.inside.settled c.self.inside.taken.items c.self.inside.served c.self.invariant)
