use Rattle.std.proofs.Common.{ℕ}
use Rattle.normal_forms.specs.declared.forms.PropId2.TheVariants.{Property}
use Rattle.inference.specs.Marks.{HasAbove, HasEnds, HasSeconds}
use Rattle.inference.proofs.Marking.{masks_more}
use Rattle.inference.proofs.joins.Joins.all.Goals as goal

pub loop-number-init : goal.loop-number-init
loop-number-init c = record {
  are = c.in_ok-joins.ensures.joins c.args.problem.now.forms c.requires.fillers;
  seconds = c.in_ok-joins.ensures.seconds;
  ends = c.in_ok-joins.ensures.ends;
  above = c.in_ok-joins.ensures.above;
}

pub returns-then-not-is_known : goal.returns-then-not-is_known
returns-then-not-is_known c = c.loop-number.invariant.are

pub loop-number-preserved : goal.loop-number-preserved
loop-number-preserved c =
    let forms = c.args.problem.now.forms in
    let i = c.loop-number.number in
    let before = c.loop-number.invariant in
    let seconds = masks_more (λ (n m : ℕ). HasSeconds forms m (Property (record { 0 = n }))) _ _ _ i c.in_ok-push.ensures.items before.seconds before.are.seconds c.seconds_of.ensures in
    let ends = masks_more (λ (n m : ℕ). HasEnds forms m (Property (record { 0 = n }))) _ _ _ i c.in_ok-push-2.ensures.items before.ends before.are.ends c.ends_of.ensures in
    let above = masks_more (λ (n m : ℕ). HasAbove forms m (Property (record { 0 = n }))) _ _ _ i c.in_ok-push-3.ensures.items before.above before.are.above c.above_of.ensures in
    record {
      are = record { seconds = seconds.0; ends = ends.0; above = above.0; plans = before.are.plans; spared = before.are.spared; fillers = before.are.fillers };
      seconds = seconds.1;
      ends = ends.1;
      above = above.1;
    }

pub returns : goal.returns
returns c = c.loop-number.invariant.are
