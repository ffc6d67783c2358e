use Rattle.inference.proofs.Planning.{also_more}
use Rattle.inference.proofs.plans.plan_forms.Goals as goal

pub loop-number-preserved : goal.loop-number-preserved
loop-number-preserved c = also_more c.args.problem.now.forms c.args.numbers.now c.loop-number.number-index _ _ _ c.loop-number-test.true c.loop-number.invariant c.in_ok-plan_form.ensures
