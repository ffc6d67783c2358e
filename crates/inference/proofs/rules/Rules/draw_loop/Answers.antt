use Rattle.std.proofs.Common.{Contains, subst, sym, ◌∙◌}
use Rattle.facts.specs.Closure.{loop, IsLoop}
use Rattle.inference.proofs.Lists.{one_value}
use Rattle.inference.proofs.Drawing.{drawn_here, draws}
use Rattle.inference.proofs.rules.Rules.draw_loop.Goals as goal

pub add-requires-clause-birth : goal.add-requires-clause-birth
add-requires-clause-birth c =
    let context = c.requires.context in
    (context.0, context.1, loop c.args.context c.args.number _ (sym c.form.ensures ∙ c.in-Some.is) ((c.loop_at.ensures c.in-Some-loop_at.fact).0 c.in-Some-loop_at.is) context.2)

pub returns-in_ok-add : goal.returns-in_ok-add
returns-in_ok-add c =
    let new = c.add.new.facts.facts in
    draws c.add.ensures.grows (drawn_here (IsLoop c.args.context) c.args.self.now.problem.now.forms c.args.number c.in-Some.form new (sym c.form.ensures ∙ c.in-Some.is)
    (λ f is. subst (Contains new) (one_value c.loop_at.result c.in-Some-loop_at.fact f c.in-Some-loop_at.is ((c.loop_at.ensures f).1 is)) c.in_ok-add.ensures.drawn))
