use Rattle.inference.proofs.Growth.{grows_trans}
use Rattle.inference.proofs.Differing.{all_places, places_more}
use Rattle.inference.proofs.Drawing.{draws}
use Rattle.inference.proofs.rules.Rules.draw_places.Goals as goal

pub loop-place-preserved : goal.loop-place-preserved
loop-place-preserved c =
    let s = c.draw_difference.ensures.grows in
    record {
      grows = grows_trans c.loop-place.invariant.grows s;
      drawn = places_more c.args.self.now.problem.now.forms c.args.list.now c.loop-place.place s c.loop-place.invariant.drawn c.in_ok-draw_difference.ensures.drawn;
    }

pub returns : goal.returns
returns c = draws c.loop-place.invariant.grows (all_places c.args.self.now.problem.now.forms c.args.list.now c.loop-place.facts.facts c.loop-place.place c.loop-place-test.false c.loop-place.invariant.drawn)
