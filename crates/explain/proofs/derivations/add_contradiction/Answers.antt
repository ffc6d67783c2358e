use Rattle.std.proofs.Common.{◌≡◌, Some, subst, subst₂, All, List}
use Rattle.std.proofs.lemmas.Result.{IfOk-weaker}
use Rattle.axioms.specs.Ontology.{Ontology}
use Rattle.axioms.specs.View.{at_number}
use Rattle.facts.specs.declared.contexts.Fact.{Fact}
use Rattle.explain.specs.Marks.{IsContradictoryFact, IsGoal}
use Rattle.explain.proofs.Aiming.{goal_within}
use Rattle.explain.proofs.Saying.{derives_contradiction, no_contradiction}
use Rattle.explain.proofs.derivations.add_contradiction.Goals as goal

pub unreachable-requires : goal.unreachable-requires
unreachable-requires g c =
    c.requires.contradictory (no_contradiction c.args.closed.now.ontology c.args.closed.now.saturation c.well_formed-2.ensures.saturated
    (subst₂ (λ (o : Ontology) (fs : List Fact). All (λ f. IsContradictoryFact o f → ⊥) fs) c.ontology.ensures c.facts.ensures c.in_default.ensures))

pub add_goal-requires-clause-counted : goal.add_goal-requires-clause-counted
add_goal-requires-clause-counted g c = (goal_within _ _ c.in-Some.goal c.in-Some.ensures).0

pub add_goal-requires-clause-there : goal.add_goal-requires-clause-there
add_goal-requires-clause-there g c =
    (goal_within _ _ c.in-Some.goal (subst (λ fs. IsGoal (IsContradictoryFact c.ontology.result.now) fs c.in-Some.goal) c.facts.ensures c.in-Some.ensures)).1

pub returns : goal.returns
returns g c =
    let (f, at, is) = c.in-Some.ensures in
    IfOk-weaker c.add_goal.result _ _
    (λ s. derives_contradiction c.args.closed.now.ontology c.args.closed.now.saturation.state.facts c.in-Some.goal (g.L.LineSink.lines s) f
    (subst (λ fs. at_number fs c.in-Some.goal ≡ Some f) c.facts.ensures at) (subst (λ (o : Ontology). IsContradictoryFact o f) c.ontology.ensures is))
    c.add_goal.ensures
