use Rattle.std.proofs.Common.{refl}
use Rattle.facts.specs.Closure.{IsLoop}
use Rattle.inference.specs.Completeness.{DrawnAt}
use Rattle.inference.proofs.Growth.{grows_trans}
use Rattle.inference.proofs.Drawing.{context_still, draws, each_more, each, drawn_at_still}
use Rattle.inference.proofs.Visiting.{all_loops}
use Rattle.inference.proofs.rules.Rules.draw_loops.Goals as goal

pub draw_loop-requires-clause-context : goal.draw_loop-requires-clause-context
draw_loop-requires-clause-context c = context_still c.loop-number.invariant.grows c.args.numbers.now c.args.context c.requires.context

pub loop-number-preserved : goal.loop-number-preserved
loop-number-preserved c =
    let forms = c.args.self.now.problem.now.forms in
    let items = c.reflexive-number-items.result.now in
    let s = c.draw_loop.ensures.grows in
    record {
      grows = grows_trans c.loop-number.invariant.grows s;
      drawn = each_more (DrawnAt (IsLoop c.args.context) forms c.loop-number.facts.facts) (DrawnAt (IsLoop c.args.context) forms c.draw_loop.new.facts.facts)
          items items c.loop-number.number-index 0 refl c.loop-number-test.true c.loop-number.invariant.drawn (drawn_at_still s _ _) c.in_ok-draw_loop.ensures.drawn;
    }

pub returns : goal.returns
returns c =
    let k = c.args.self.now.problem.now in
    let items = c.reflexive-number-items.result.now in
    draws c.loop-number.invariant.grows (all_loops k c.args.context c.loop-number.facts.facts (λ n form at reflexive.
    each (DrawnAt (IsLoop c.args.context) k.forms c.loop-number.facts.facts) items items c.loop-number.number-index refl c.loop-number-test.false c.loop-number.invariant.drawn n ((c.reflexive-number-items.ensures n).1 (form, at, reflexive))))
