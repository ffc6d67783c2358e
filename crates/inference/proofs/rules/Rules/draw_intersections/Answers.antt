use Rattle.std.proofs.Common.{refl}
use Rattle.inference.specs.Completeness.{IsDrawnIn}
use Rattle.inference.proofs.Growth.{grows_trans}
use Rattle.inference.proofs.Drawing.{draws, each_more, each}
use Rattle.inference.proofs.Intersections.{drawn_in_still, drawn_in_earlier}
use Rattle.inference.proofs.rules.Rules.draw_intersections.Goals as goal

pub loop-number-preserved : goal.loop-number-preserved
loop-number-preserved c =
    let k = c.args.self.now.problem.now in
    let old = c.args.facts.now.facts in
    let s = c.loop-number.invariant.grows in
    let t = c.draw_intersection.ensures.grows in
    record {
      grows = grows_trans s t;
      drawn = each_more (IsDrawnIn k old c.args.context c.loop-number.facts.facts) (IsDrawnIn k old c.args.context c.draw_intersection.new.facts.facts)
          c.args.listed.now c.args.listed.now c.loop-number.number-index 0 refl c.loop-number-test.true c.loop-number.invariant.drawn (drawn_in_still t old c.args.context)
          (drawn_in_earlier s _ c.args.context _ c.in_ok-draw_intersection.ensures.drawn);
    }

pub returns : goal.returns
returns c =
    let k = c.args.self.now.problem.now in
    draws c.loop-number.invariant.grows (each (IsDrawnIn k c.args.facts.now.facts c.args.context c.loop-number.facts.facts) c.args.listed.now c.args.listed.now c.loop-number.number-index refl c.loop-number-test.false c.loop-number.invariant.drawn)
