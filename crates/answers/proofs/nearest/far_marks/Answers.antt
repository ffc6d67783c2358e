use Rattle.std.proofs.Common.{ℕ, length, replicate, false, ap, ◌∙◌, arith}
use Rattle.answers.specs.Neighbours.{IsFartherFrom}
use Rattle.answers.proofs.MarkedFacts.{as_long, no_step, one_step}
use Rattle.answers.proofs.Nearing.{far_ended}
use Rattle.answers.proofs.nearest.far_marks.Goals as goal

pub loop-low-init : goal.loop-low-init
loop-low-init c = no_step _ _ _ (c.in_ok-far.ensures ∙ ap (λ (n : ℕ). replicate n false) c.len.ensures)

pub loop-low-preserved : goal.loop-low-preserved
loop-low-preserved c =
    one_step (IsFartherFrom c.args.lists.now c.args.marks.now c.args.side) (replicate (length c.args.marks.now) false) c.loop-low.low c.loop-low.far c.mark_farther.new.far
    c.loop-low.invariant c.mark_farther.ensures.long c.mark_farther.ensures.exact

pub returns-clause-long : goal.returns-clause-long
returns-clause-long c = as_long _ _ _ _ c.loop-low.invariant

pub returns-clause-exact : goal.returns-clause-exact
returns-clause-exact c = far_ended c.args.lists.now c.args.marks.now c.args.side c.loop-low.low c.loop-low.far (omega (arith, c.loop-low-test.false, c.len-low-end.ensures)) c.loop-low.invariant
