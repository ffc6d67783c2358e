use Rattle.std.proofs.Common.{[], ◌∷◌, None, refl, subst}
use Rattle.facts.specs.declared.contexts.Fact.{Fact}
use Rattle.facts.specs.Closure.{Gives, unsatisfiable}
use Rattle.inference.specs.Premises.{edge_fact}
use Rattle.inference.proofs.Drawing.{draws}
use Rattle.inference.proofs.Restrictions.{nothing_there}
use Rattle.inference.proofs.rules.Rules.carry_nothing.Goals as goal

pub returns-in_ok-draw_two : goal.returns-in_ok-draw_two
returns-in_ok-draw_two c =
    let k = c.args.self.now.problem.now in
    let edge = edge_fact c.args.hand in
    rw (← c.seek.ensures.same) (draws c.draw_two.ensures.grows (λ g h there w.
    c.in_ok-draw_two.ensures.drawn 8 None h (subst (λ (f : Fact). Gives k 8 None (edge ∷ f ∷ []) h) (nothing_there edge g h c.args.hand.target refl w) (unsatisfiable w))))
