use Rattle.std.proofs.Common.{◌≡◌, ◌∷◌, [], subst}
use Rattle.facts.specs.declared.contexts.Fact.{Fact}
use Rattle.facts.specs.declared.contexts.Fact.TheVariants.{In}
use Rattle.inference.specs.Completeness.{Drawn}
use Rattle.inference.proofs.Lists.{one_value}
use Rattle.inference.proofs.Growth.{grows_trans}
use Rattle.inference.proofs.Drawing.{drawn_still, draws}
use Rattle.inference.proofs.Intersections.{nothing_drawn}
use Rattle.inference.proofs.rules.Rules.draw_apart.Goals as goal

pub returns : goal.returns
returns c =
    let k = c.args.self.now.problem.now in
    let x = c.args.hand.context in
    let f = In c.args.hand.class x in
    let b = c.requires.other.0 in
    let new = c.draw_two-2.new.facts.facts in
    let same : c.get.result ≡ In b x = one_value _ c.get.result (In b x) c.get.ensures c.requires.other.2 in
    draws (grows_trans c.draw_two.ensures.grows c.draw_two-2.ensures.grows)
    (nothing_drawn k c.args.hand.class b x new c.requires.other.1
    (subst (λ (g : Fact). Drawn k (f ∷ g ∷ []) new) same (drawn_still c.draw_two-2.ensures.grows _ c.in_ok-draw_two.ensures.drawn))
    (subst (λ (g : Fact). Drawn k (g ∷ f ∷ []) new) same c.in_ok-draw_two-2.ensures.drawn))
