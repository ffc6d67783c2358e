use Rattle.std.proofs.Common.{◌≡◌, Contains, [], ◌∷◌, Option, refl, ap, subst, sym}
use Rattle.facts.specs.declared.contexts.Context.{Context}
use Rattle.facts.specs.declared.contexts.Fact.{Fact}
use Rattle.facts.specs.declared.contexts.Fact.TheVariants.{In}
use Rattle.facts.specs.Closure.{thing}
use Rattle.inference.specs.Completeness.{AreLoopsDrawn}
use Rattle.inference.proofs.Drawing.{draws}
use Rattle.inference.proofs.Growth.{grows_same}
use Rattle.inference.proofs.Lists.{one_value}
use Rattle.inference.proofs.rules.Rules.draw_target.Goals as goal

pub draw_missing_loops-requires-clause-context : goal.draw_missing_loops-requires-clause-context
draw_missing_loops-requires-clause-context c = (c.get-fact.result ∷ [], ap (λ (o : Option Fact). o ∷ []) c.get-fact.ensures, rw c.in-Edge.is refl)

pub returns-in_ok-draw_missing_loops : goal.returns-in_ok-draw_missing_loops
returns-in_ok-draw_missing_loops c = draws c.draw_missing_loops.ensures.grows (λ f x at target top.
    let e = one_value _ f c.get-fact.result at c.get-fact.ensures in
    let same : c.in-Edge.target ≡ x = rw (e, c.in-Edge.is) at target in
    subst (λ (y : Context). AreLoopsDrawn c.args.self.now.problem.now y c.draw_missing_loops.new.facts) same
    (c.in_ok-draw_missing_loops.ensures.drawn (subst (λ (y : Context). Contains c.args.facts.now.facts (In thing y)) (sym same) top)))

pub returns-in_default : goal.returns-in_default
returns-in_default c = draws (grows_same c.requires.derived) (λ f x at target top.
    let e = one_value _ f c.get-fact.result at c.get-fact.ensures in
    absurd (rw (e, c.in_default.is) at target))
