use Rattle.std.proofs.Common.{◌≤◌, length, arith}
use Rattle.saturate.proofs.Runs.{seen_state}
use Rattle.saturate.proofs.States.{finished}
use Rattle.saturate.proofs.state.State.well_formed.Goals as goal

pub returns-clause-state : goal.returns-clause-state
returns-clause-state g c = rw (← c.self.view_is) (seen_state c.self.invariant.0 c.all_served.ensures.once.distinct)

pub returns-clause-closure : goal.returns-clause-closure
returns-clause-closure g c = rw (← c.self.view_is) (λ all.
    let q = c.self.inside.queue in
    let few : length q.served ≤ q.queued = c.all_served.ensures.few in
    let most : q.queued ≤ length q.served = omega (arith, c.self.invariant.0.queued, all) in
    finished q.served c.self.invariant.0.derived c.self.invariant.0.complete (λ n low. c.all_served.ensures.all most n (omega (arith, low, few, all))))
