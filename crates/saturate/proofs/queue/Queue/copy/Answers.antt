use Rattle.std.proofs.Common.{refl, sym, ◌∙◌}
use Rattle.saturate.proofs.Shifting.{none_then}
use Rattle.saturate.proofs.queue.Queue.copy.Goals as goal

-- nothing waits in either list
pub invariant_of-result : goal.invariant_of-result
invariant_of-result g c =
    let none = none_then c.self.inside.settled c.self.inside.taken.items c.self.inside.served c.self.invariant (rw (← c.self.view_is) at c.requires.finished) in
    rw (c.in_ok-settled.ensures, c.in_ok-taken.ensures, c.requires.list ∙ sym none) c.self.invariant

pub returns : goal.returns
returns g c =
    let none = none_then c.self.inside.settled c.self.inside.taken.items c.self.inside.served c.self.invariant (rw (← c.self.view_is) at c.requires.finished) in
    rw (← c.self.view_is, c.in_ok-settled.ensures, c.in_ok-taken.ensures, c.requires.list ∙ sym none) refl
