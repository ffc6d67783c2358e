use Rattle.std.proofs.Common.{refl}
use Rattle.normal_forms.proofs.Suffice.{suffice}
use Rattle.inference.specs.Marks.{AreFilledOn}
use Rattle.inference.specs.Premises.{edge_fact}
use Rattle.inference.proofs.Growth.{grows_trans}
use Rattle.inference.proofs.Drawing.{draws, each_more, each}
use Rattle.inference.proofs.Restrictions.{filled_all, filled_earlier, on_still}
use Rattle.inference.proofs.rules.Rules.fill_all.Goals as goal

pub loop-above-preserved : goal.loop-above-preserved
loop-above-preserved c =
    let k = c.args.self.now.problem.now in
    let edge = edge_fact c.args.hand in
    let old = c.args.facts.now.facts in
    let s = c.loop-above.invariant.grows in
    let t = c.fill_by.ensures.grows in
    let items = c.supers-above-items.result.now in
    record {
      grows = grows_trans s t;
      filled = each_more (AreFilledOn k edge old c.loop-above.facts.facts) (AreFilledOn k edge old c.fill_by.new.facts.facts)
          items items c.loop-above.above-index _ refl c.loop-above-test.true c.loop-above.invariant.filled (on_still t edge old)
          (λ n under. filled_earlier s edge _ n (c.in_ok-fill_by.ensures.drawn n under));
    }

pub returns : goal.returns
returns c =
    let k = c.args.self.now.problem.now in
    let p = c.args.hand.property in
    let old = c.args.facts.now.facts in
    let new = c.loop-above.facts.facts in
    let items = c.supers-above-items.result.now in
    draws c.loop-above.invariant.grows (filled_all k (edge_fact c.args.hand) old new p refl (λ r above.
    each (AreFilledOn k (edge_fact c.args.hand) old new) items items c.loop-above.above-index refl c.loop-above-test.false c.loop-above.invariant.filled r
    ((c.supers-above-items.ensures.exact r).1 (c.requires.has, rw c.args.self.now.closed.same ((suffice k.forms p r (p, r)).0.1 above)))))
