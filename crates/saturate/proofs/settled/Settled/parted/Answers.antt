use Rattle.std.proofs.Common.{ap, ◌∙◌, arith}
use Rattle.saturate.specs.Flags.{kept}
use Rattle.saturate.specs.Settling.{TakesOut}
use Rattle.saturate.proofs.Settling.{few_out, left_then, out_then, settled_then}
use Rattle.saturate.proofs.settled.Settled.parted.Goals as goal
use Rattle.saturate.proofs.settled.Settled.parted.Goals.{After-len}

-- those that are flagged go, where they are not gone
out : (c : After-len) → TakesOut c.numbers.result.now c.self.inside.gone c.take_out.new.gone c.in_ok-out.out.items
out c = rw c.in_ok-gone.ensures at c.in_ok-out.ensures

pub overflow_sub-settled : goal.overflow_sub-settled
overflow_sub-settled c =
    let d = (goal.at.overflow_sub-settled c).After-len in
    omega (arith, few_out d.args.flags.now d.self.invariant d.numbers.ensures (out d), d.len.ensures, d.in_ok-out.out.ok.0)

pub invariant_of-settled : goal.invariant_of-settled
invariant_of-settled c =
    let d = (goal.at.invariant_of-settled c).After-len in
    let few = few_out d.args.flags.now d.self.invariant d.numbers.ensures (out d) in
    rw d.in_ok-numbers.ensures.cases (settled_then d.args.flags.now d.self.invariant d.numbers.ensures (out d) _ (omega (arith, few, d.len.ensures, d.in_ok-out.out.ok.0)))

pub returns-clause-kept : goal.returns-clause-kept
returns-clause-kept c =
    let d = (goal.at.returns-clause-kept c).After-len in
    ap (λ numbers. kept d.take_out.new.gone numbers.items) d.in_ok-numbers.ensures.cases
    ∙ left_then d.args.flags.now d.self.invariant d.numbers.ensures (out d)
    ∙ ap (kept d.args.flags.now) d.self.view_is

pub returns-clause-asked : goal.returns-clause-asked
returns-clause-asked c =
    let d = (goal.at.returns-clause-asked c).After-len in
    rw (← d.self.view_is) (out_then d.args.flags.now d.self.invariant d.numbers.ensures (out d))
