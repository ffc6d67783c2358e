use Rattle.std.proofs.Common.{◌∙◌}
use Rattle.device.proofs.Pieces.{Appends-next, at_most_rest}
use Rattle.device.proofs.whole.write_all.Goals as goal

pub loop-at-preserved : goal.loop-at-preserved
loop-at-preserved g c =
    let w = c.in_ok-at.ensures.ok in
    record {
      within = at_most_rest c.args.text.now c.loop-at.at c.in_ok-at.field-0 c.loop-at.invariant.within w.within;
      done = Appends-next _ _ _ c.args.text.now c.loop-at.at c.in_ok-at.field-0 c.loop-at.invariant.done w.bytes;
      path = c.in_ok-at.ensures.path ∙ c.loop-at.invariant.path;
      count = c.in_ok-at.ensures.unfailed ∙ c.loop-at.invariant.count;
    }
