use Rattle.inference.proofs.Growth.{grows_trans}
use Rattle.inference.proofs.Drawing.{draws}
use Rattle.inference.proofs.Intersections.{drawn_in_still, drawn_in_earlier}
use Rattle.inference.proofs.rules.Rules.meet_operands.Goals as goal

pub returns : goal.returns
returns c =
    let old = c.args.facts.now.facts in
    draws (grows_trans c.draw_intersections.ensures.grows c.draw_intersections-2.ensures.grows) (record {
      first = λ n under. drawn_in_still c.draw_intersections-2.ensures.grows old c.args.context n (c.in_ok-draw_intersections.ensures.drawn n under);
      second = λ n under. drawn_in_earlier c.draw_intersections.ensures.grows _ c.args.context n (c.in_ok-draw_intersections-2.ensures.drawn n under);
    })
