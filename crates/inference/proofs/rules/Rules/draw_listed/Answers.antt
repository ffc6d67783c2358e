use Rattle.std.proofs.Common.{refl}
use Rattle.inference.specs.Completeness.{IsDrawnFrom}
use Rattle.inference.proofs.Growth.{grows_trans}
use Rattle.inference.proofs.Drawing.{at_still, draws, each_more, each, drawn_at_still}
use Rattle.inference.proofs.rules.Rules.draw_listed.Goals as goal

pub draw_form-requires-clause-older : goal.draw_form-requires-clause-older
draw_form-requires-clause-older c = at_still _ _ c.loop-number.invariant.grows.facts c.args.older.numbers.now c.args.older.facts.now c.requires.older

pub loop-number-preserved : goal.loop-number-preserved
loop-number-preserved c =
    let k = c.args.self.now.problem.now in
    let older = c.args.older.facts.now in
    let s = c.draw_form.ensures.grows in
    record {
      grows = grows_trans c.loop-number.invariant.grows s;
      drawn = each_more (IsDrawnFrom k older c.loop-number.facts.facts) (IsDrawnFrom k older c.draw_form.new.facts.facts)
          c.args.listed.now c.args.listed.now c.loop-number.number-index 0 refl c.loop-number-test.true c.loop-number.invariant.drawn (drawn_at_still s _ _) c.in_ok-draw_form.ensures.drawn;
    }

pub returns : goal.returns
returns c =
    draws c.loop-number.invariant.grows (each (IsDrawnFrom c.args.self.now.problem.now c.args.older.facts.now c.loop-number.facts.facts) c.args.listed.now c.args.listed.now c.loop-number.number-index refl c.loop-number-test.false c.loop-number.invariant.drawn)
