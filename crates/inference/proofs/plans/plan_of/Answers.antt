use Rattle.std.proofs.Common.{refl}
use Rattle.normal_forms.proofs.Suffice.{suffice}
use Rattle.inference.specs.Plans.{HasChainsFrom}
use Rattle.inference.proofs.Drawing.{each_more, each}
use Rattle.inference.proofs.Planning.{from_still, has_these}
use Rattle.inference.proofs.plans.plan_of.Goals as goal

pub loop-above-preserved : goal.loop-above-preserved
loop-above-preserved c =
    let forms = c.args.problem.now.forms in
    let items = c.supers-above-items.result.now in
    let also = c.in_ok-plan_forms.ensures in
    let old = c.loop-above.plan.items in
    let new = c.plan_forms.new.plan.items in
    record {
      say = also.say c.loop-above.invariant.say;
      has = each_more (HasChainsFrom forms old) (HasChainsFrom forms new) items items c.loop-above.above-index _ refl c.loop-above-test.true c.loop-above.invariant.has
          (λ r has. from_still forms _ old new r also has) (has_these forms _ _ old new (λ n under. (c.chains_from.ensures n).1 under) also);
    }

pub returns : goal.returns
returns c =
    let forms = c.args.problem.now.forms in
    let items = c.supers-above-items.result.now in
    record {
      say = c.loop-above.invariant.say;
      has = λ r above. each (HasChainsFrom forms c.loop-above.plan.items) items items c.loop-above.above-index refl c.loop-above-test.false c.loop-above.invariant.has r
          ((c.supers-above-items.ensures.exact r).1 (c.requires.has, rw c.requires.closed.same ((suffice forms c.args.property r (c.args.property, r)).0.1 above)));
    }
