use Rattle.std.proofs.Common.{◌+◌, take, sym, subst}
use Rattle.generated_part.specs.Elements.{AddsTargets}
use Rattle.generated_part.proofs.Rows.{one_target, all_targets}
use Rattle.generated_part.proofs.by_element.push_targets.Goals as goal

pub loop-target-preserved : goal.loop-target-preserved
loop-target-preserved c =
    let k = c.loop-target.target-index in
    subst (AddsTargets c.args.found.now.items c.args.property (take (k + 1) c.args.targets.now)) (sym c.in_ok-push.ensures.items)
    (one_target c.args.found.now.items c.args.property c.args.targets.now k 0 c.loop-target.found.items c.loop-target-test.true c.loop-target.invariant)

pub returns : goal.returns
returns c = all_targets c.args.found.now.items c.args.property c.args.targets.now c.loop-target.target-index c.loop-target.found.items c.loop-target-test.false c.loop-target.invariant
