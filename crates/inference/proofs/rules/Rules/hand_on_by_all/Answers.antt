use Rattle.std.proofs.Common.{refl}
use Rattle.inference.specs.Sameness.{IsHandedOnBy}
use Rattle.inference.proofs.Growth.{grows_trans}
use Rattle.inference.proofs.Drawing.{draws, each_more, each}
use Rattle.inference.proofs.Handing.{by_still}
use Rattle.inference.proofs.rules.Rules.hand_on_by_all.Goals as goal

pub hand_on_by-requires-clause-hand : goal.hand_on_by-requires-clause-hand
hand_on_by-requires-clause-hand c = c.loop-number.invariant.grows.facts c.args.hand.number c.args.hand.fact c.requires.hand

pub loop-number-preserved : goal.loop-number-preserved
loop-number-preserved c =
    let k = c.args.self.now.problem.now in
    let listed = c.args.listed.now in
    let s = c.hand_on_by.ensures.grows in
    record {
      grows = grows_trans c.loop-number.invariant.grows s;
      drawn = each_more (IsHandedOnBy k c.args.hand.fact c.loop-number.facts.facts) (IsHandedOnBy k c.args.hand.fact c.hand_on_by.new.facts.facts)
          listed listed c.loop-number.number-index 0 refl c.loop-number-test.true c.loop-number.invariant.drawn (by_still s c.args.hand.fact) c.in_ok-hand_on_by.ensures.drawn;
    }

pub returns : goal.returns
returns c =
    let listed = c.args.listed.now in
    draws c.loop-number.invariant.grows
    (each (IsHandedOnBy c.args.self.now.problem.now c.args.hand.fact c.loop-number.facts.facts) listed listed c.loop-number.number-index refl c.loop-number-test.false c.loop-number.invariant.drawn)
