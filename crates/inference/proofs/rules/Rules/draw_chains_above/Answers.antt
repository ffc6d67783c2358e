use Rattle.std.proofs.Common.{refl}
use Rattle.inference.specs.Visits.{ChainsDrawn}
use Rattle.inference.proofs.Growth.{grows_trans}
use Rattle.inference.proofs.Drawing.{at_still, draws, each_more, each, drawn_at_still}
use Rattle.normal_forms.proofs.Suffice.{suffice}
use Rattle.inference.proofs.rules.Rules.draw_chains_above.Goals as goal

pub draw_chains_from-requires-clause-older : goal.draw_chains_from-requires-clause-older
draw_chains_from-requires-clause-older c = at_still _ _ c.loop-above.invariant.grows.facts c.args.older.numbers.now c.args.older.facts.now c.requires.older

pub loop-above-preserved : goal.loop-above-preserved
loop-above-preserved c =
    let k = c.args.self.now.problem.now in
    let older = c.args.older.facts.now in
    let s = c.draw_chains_from.ensures.grows in
    let items = c.supers-above-items.result.now in
    record {
      grows = grows_trans c.loop-above.invariant.grows s;
      drawn = each_more (ChainsDrawn k older c.loop-above.facts.facts) (ChainsDrawn k older c.draw_chains_from.new.facts.facts)
          items items c.loop-above.above-index _ refl c.loop-above-test.true c.loop-above.invariant.drawn
          (λ r drawn n under. drawn_at_still s _ _ n (drawn n under))
          c.in_ok-draw_chains_from.ensures.drawn;
    }

pub returns : goal.returns
returns c = draws c.loop-above.invariant.grows (λ r above.
    let items = c.supers-above-items.result.now in
    each (ChainsDrawn c.args.self.now.problem.now c.args.older.facts.now c.loop-above.facts.facts) items items c.loop-above.above-index refl c.loop-above-test.false c.loop-above.invariant.drawn r ((c.supers-above-items.ensures.exact r).1 (c.requires.has, rw c.args.self.now.closed.same ((suffice c.args.self.now.problem.now.forms c.args.first r (c.args.first, r)).0.1 above))))
