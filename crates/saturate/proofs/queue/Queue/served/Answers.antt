use Rattle.std.proofs.Common.{arith}
use Rattle.saturate.proofs.Shifting.{few_then, long_then}
use Rattle.saturate.proofs.queue.Queue.served.Goals as goal

pub overflow_add-result : goal.overflow_add-result
overflow_add-result g c =
    let settled = c.self.inside.settled in
    let taken = c.self.inside.taken.items in
    let served = c.self.inside.served in
    omega (arith, few_then settled taken served c.self.invariant, long_then settled taken served c.self.invariant, c.len.ensures)
