use Rattle.std.proofs.Common.{refl, ap, ◌∙◌}
use Rattle.indexes.specs.Keys.{by_chain}
use Rattle.inference.specs.Visits.{AreChainsDrawn}
use Rattle.inference.proofs.Growth.{grows_trans}
use Rattle.inference.proofs.Drawing.{at_still, draws, each_more, each, drawn_at_still}
use Rattle.inference.proofs.Lists.{one_value}
use Rattle.inference.proofs.Visiting.{chain_end}
use Rattle.normal_forms.proofs.Suffice.{suffice}
use Rattle.inference.proofs.rules.Rules.draw_chains_of.Goals as goal

pub draw_listed-requires-clause-older : goal.draw_listed-requires-clause-older
draw_listed-requires-clause-older c = at_still _ _ c.loop-above.invariant.grows.facts c.args.older.numbers.now c.args.older.facts.now c.requires.older

pub loop-above-preserved : goal.loop-above-preserved
loop-above-preserved c =
    let k = c.args.self.now.problem.now in
    let older = c.args.older.facts.now in
    let s = c.draw_listed.ensures.grows in
    let items = c.supers-above-items.result.now in
    record {
      grows = grows_trans c.loop-above.invariant.grows s;
      drawn = each_more (AreChainsDrawn k older c.loop-above.facts.facts c.args.first) (AreChainsDrawn k older c.draw_listed.new.facts.facts c.args.first)
          items items c.loop-above.above-index _ refl c.loop-above-test.true c.loop-above.invariant.drawn
          (λ r drawn n under by. drawn_at_still s _ _ n (drawn n under by))
          (λ n under by. c.in_ok-draw_listed.ensures.drawn n ((c.chains-listed.ensures n).1 (under, by)));
    }

pub returns : goal.returns
returns c = draws c.loop-above.invariant.grows (λ n under form at f gives.
    let k = c.args.self.now.problem.now in
    let items = c.supers-above-items.result.now in
    let begins = ap by_chain (one_value _ form under.0 at under.1) ∙ under.2 in
    let w = chain_end k form c.args.older.facts.now f c.args.second _ c.requires.second begins gives in
    each (AreChainsDrawn k c.args.older.facts.now c.loop-above.facts.facts c.args.first) items items c.loop-above.above-index refl c.loop-above-test.false c.loop-above.invariant.drawn w.0
    ((c.supers-above-items.ensures.exact w.0).1 (c.requires.has, rw c.args.self.now.closed.same ((suffice k.forms c.args.second w.0 (c.args.second, w.0)).0.1 w.1)))
    n under (form, at, w.2) form at f gives)
