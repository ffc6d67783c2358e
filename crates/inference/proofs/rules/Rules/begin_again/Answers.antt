use Rattle.inference.proofs.Growth.{grows_trans}
use Rattle.inference.proofs.Drawing.{draws}
use Rattle.inference.proofs.Owing.{loops_still}
use Rattle.inference.proofs.rules.Rules.begin_again.Goals as goal

pub returns : goal.returns
returns c =
    let s = grows_trans c.draw_targets.ensures.grows c.begin.ensures.grows in
    draws s (record {
      grows = s;
      given = c.in_ok-begin.ensures.drawn;
      loops = λ n f x at target top. loops_still c.begin.ensures.grows x (c.in_ok-draw_targets.ensures.drawn n f x at target top);
    })
