use Rattle.std.proofs.Common.{Contains, subst, sym, ◌∙◌}
use Rattle.facts.specs.Closure.{by_form, Concludes}
use Rattle.inference.proofs.Lists.{one_value}
use Rattle.inference.proofs.Drawing.{drawn_here, draws}
use Rattle.inference.proofs.rules.Rules.draw_form.Goals as goal

pub add-requires-clause-birth : goal.add-requires-clause-birth
add-requires-clause-birth c =
    let k = c.args.self.now.problem.now in
    (c.args.older.facts.now, c.requires.older, rw c.condition_of.ensures (by_form c.args.number _ (sym c.form.ensures ∙ c.in-Some.is) ((c.conclusion.ensures k c.in-Some-conclusion.fact c.args.self.now.closed).0 c.in-Some-conclusion.is)))

pub returns-in_ok-add : goal.returns-in_ok-add
returns-in_ok-add c =
    let k = c.args.self.now.problem.now in
    let new = c.add.new.facts.facts in
    draws c.add.ensures.grows (drawn_here (λ form. Concludes k form c.args.older.facts.now) k.forms c.args.number c.in-Some.form new (sym c.form.ensures ∙ c.in-Some.is)
    (λ f gives. subst (Contains new) (one_value c.conclusion.result c.in-Some-conclusion.fact f c.in-Some-conclusion.is ((c.conclusion.ensures k f c.args.self.now.closed).1 gives)) c.in_ok-add.ensures.drawn))
