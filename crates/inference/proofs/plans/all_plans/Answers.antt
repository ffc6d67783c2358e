use Rattle.std.proofs.Common.{List, subst, sym}
use Rattle.normal_forms.specs.declared.forms.PropId2.TheVariants.{Property}
use Rattle.inference.specs.declared.plans.PlannedChain.{PlannedChain}
use Rattle.inference.specs.Plans.{IsPlan}
use Rattle.inference.proofs.Planning.{plans_more}
use Rattle.inference.proofs.plans.all_plans.Goals as goal

pub loop-number-preserved : goal.loop-number-preserved
loop-number-preserved c =
    let forms = c.args.problem.now.forms in
    let place = c.loop-number.number in
    let here = subst (λ (plan : List PlannedChain). IsPlan forms (Property (record { 0 = place })) plan) (sym c.deref.ensures.value) c.in_ok-plan.ensures in
    let more = plans_more forms _ _ c.deref.result.now place c.in_ok-push_list.ensures.ok c.loop-number.invariant.long c.loop-number.invariant.are here in
    record { are = more.0; long = more.1 }
