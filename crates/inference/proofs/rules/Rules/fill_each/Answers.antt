use Rattle.std.proofs.Common.{refl}
use Rattle.inference.specs.Marks.{IsFilled}
use Rattle.inference.specs.Premises.{edge_fact}
use Rattle.inference.proofs.Growth.{grows_trans}
use Rattle.inference.proofs.Drawing.{draws, each_more, each}
use Rattle.inference.proofs.Restrictions.{filled_earlier, filled_still}
use Rattle.inference.proofs.rules.Rules.fill_each.Goals as goal

pub loop-number-preserved : goal.loop-number-preserved
loop-number-preserved c =
    let k = c.args.self.now.problem.now in
    let edge = edge_fact c.args.hand in
    let old = c.args.facts.now.facts in
    let s = c.loop-number.invariant.grows in
    let t = c.fill_one.ensures.grows in
    record {
      grows = grows_trans s t;
      filled = each_more (IsFilled k edge old c.loop-number.facts.facts) (IsFilled k edge old c.fill_one.new.facts.facts)
          c.args.numbers.now c.args.numbers.now c.loop-number.number-index 0 refl c.loop-number-test.true c.loop-number.invariant.filled (filled_still t edge old)
          (filled_earlier s edge _ _ c.in_ok-fill_one.ensures.drawn);
    }

pub returns : goal.returns
returns c =
    draws c.loop-number.invariant.grows (each (IsFilled c.args.self.now.problem.now (edge_fact c.args.hand) c.args.facts.now.facts c.loop-number.facts.facts) c.args.numbers.now c.args.numbers.now c.loop-number.number-index refl c.loop-number-test.false c.loop-number.invariant.filled)
