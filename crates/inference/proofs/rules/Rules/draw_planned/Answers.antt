use Rattle.std.proofs.Common.{Contains, subst}
use Rattle.facts.specs.Closure.{by_form, Concludes}
use Rattle.inference.proofs.Lists.{one_value}
use Rattle.inference.proofs.Drawing.{drawn_here, draws}
use Rattle.inference.proofs.rules.Rules.draw_planned.Goals as goal

pub add-requires-clause-birth : goal.add-requires-clause-birth
add-requires-clause-birth c =
    let k = c.args.self.now.problem.now in
    (c.args.older.facts.now, c.requires.older, by_form c.args.chain.number _ c.requires.says ((c.joined.ensures k c.in-Some.fact c.args.self.now.closed c.requires.above).0 c.in-Some.is))

pub returns-in_ok-add : goal.returns-in_ok-add
returns-in_ok-add c =
    let k = c.args.self.now.problem.now in
    let new = c.add.new.facts.facts in
    draws c.add.ensures.grows (drawn_here (λ form. Concludes k form c.args.older.facts.now) k.forms c.args.chain.number _ new c.requires.says
    (λ f gives. subst (Contains new) (one_value c.joined.result c.in-Some.fact f c.in-Some.is ((c.joined.ensures k f c.args.self.now.closed c.requires.above).1 gives)) c.in_ok-add.ensures.drawn))
