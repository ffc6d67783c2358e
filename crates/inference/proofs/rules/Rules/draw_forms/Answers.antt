use Rattle.inference.proofs.Growth.{grows_trans, there_still}
use Rattle.inference.proofs.Drawing.{at_still, draws, drawn_at_still}
use Rattle.inference.proofs.Visiting.{all_given}
use Rattle.inference.proofs.rules.Rules.draw_forms.Goals as goal

pub draw_filled-requires-clause-older : goal.draw_filled-requires-clause-older
draw_filled-requires-clause-older c = at_still _ _ c.draw_others.ensures.grows.facts c.args.older.numbers.now c.args.older.facts.now c.requires.older

pub draw_chained-requires-clause-older : goal.draw_chained-requires-clause-older
draw_chained-requires-clause-older c = at_still _ _ (grows_trans c.draw_others.ensures.grows c.draw_filled.ensures.grows).facts c.args.older.numbers.now c.args.older.facts.now c.requires.older

pub returns : goal.returns
returns c =
    let k = c.args.self.now.problem.now in
    let older = c.args.older.facts.now in
    let after = grows_trans c.draw_filled.ensures.grows c.draw_chained.ensures.grows in
    draws (grows_trans c.draw_others.ensures.grows after) (all_given k older c.draw_chained.new.facts.facts
    (λ n form f at none unfilled gives. there_still after f (c.in_ok-draw_others.ensures.drawn n form f at none unfilled gives))
    (λ p x is n under. drawn_at_still c.draw_chained.ensures.grows _ _ n (c.in_ok-draw_filled.ensures.drawn p x is n under))
    c.in_ok-draw_chained.ensures.drawn)
