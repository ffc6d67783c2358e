use Rattle.std.proofs.Common.{◌≡◌, ◌≤◌, ◌+◌, ◌++◌, ℕ, List, [], Option, length, take, slice_get, ap, ap₂, ◌∙◌, arith}
use Rattle.saturate.proofs.Shifting.{hand_all, long_then, once_all, served_all}
use Rattle.saturate.proofs.queue.Queue.settle.Goals as goal
use Rattle.saturate.proofs.queue.Queue.settle.Goals.{After-replace-taken}

-- as many were served as were queued
most : (g : _) (c : After-replace-taken g) → c.self.inside.queued ≤ length c.self.inside.settled + c.self.inside.served
most g c = omega (arith, c.if-served-self.false, rw (← c.self.view_is) at c.served.ensures.value, long_then c.self.inside.settled c.self.inside.taken.items c.self.inside.served c.self.invariant)

pub with-requires-clause-all : goal.with-requires-clause-all
with-requires-clause-all g c =
    let d = (goal.at.with-requires-clause-all g c).After-replace-taken in
    rw c.replace-taken.ensures.value (once_all c.self.inside.settled c.self.inside.taken.items c.self.inside.served c.self.invariant (most g d))

pub returns-in-Ok : goal.returns-in-Ok
returns-in-Ok g c =
    let d = (goal.at.returns-in-Ok g c).After-replace-taken in
    let settled = c.self.inside.settled in
    let taken = c.self.inside.taken.items in
    let served = c.self.inside.served in
    let empty : c.replace-taken.new.dest.items ≡ [] = ap (λ v. v.items) c.replace-taken.ensures.after ∙ c.new.ensures.items in
    ap₂ (λ (ns : List ℕ) (o : Option ℕ). record { queued = c.self.inside.queued; waiting = g.W.WorkList.pending c.self.inside.list; served = ns; hand = o })
    (ap₂ (λ (ns ms : List ℕ). ns ++ take 0 ms) (c.in-Ok.ensures.ok ∙ ap (λ v. settled ++ v.items) c.replace-taken.ensures.value) empty ∙ served_all settled taken served c.self.invariant (most g d))
    (ap (λ ms. slice_get ms 0) empty ∙ hand_all settled taken served c.self.invariant (most g d))
    ∙ c.self.view_is
