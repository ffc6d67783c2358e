use Rattle.inference.proofs.Growth.{grows_trans}
use Rattle.inference.proofs.Drawing.{loops_more}
use Rattle.inference.proofs.rules.Rules.draw_targets.Goals as goal

pub loop-number-preserved : goal.loop-number-preserved
loop-number-preserved c = record {
  grows = grows_trans c.loop-number.invariant.grows c.draw_target.ensures.grows;
  drawn = loops_more c.loop-number.number c.loop-number.invariant.grows c.draw_target.ensures.grows c.loop-number.invariant.drawn c.in_ok-draw_target.ensures.drawn;
}
