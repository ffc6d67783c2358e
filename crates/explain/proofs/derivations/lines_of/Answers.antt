use Rattle.std.proofs.Common.{◌≡◌, ◌≤◌, Some, length, sym, ap, subst, ◌∙◌}
use Rattle.axioms.specs.View.{at_number}
use Rattle.axioms.specs.declared.ids.ExprId.{ExprId}
use Rattle.certificate.specs.Certificate.{Sub}
use Rattle.certificate.specs.View.{lines_of}
use Rattle.closure.specs.Denotations.{context_of}
use Rattle.exactness.specs.Derivability.{subject_of}
use Rattle.engine.specs.Closed.{Closed}
use Rattle.engine.specs.Saturations.{IsSaturated}
use Rattle.explain.proofs.Aiming.{goal_within}
use Rattle.explain.proofs.Saying.{no_fact}
use Rattle.explain.specs.Needs.{Derives}
use Rattle.facts.specs.declared.contexts.Context.{Context}
use Rattle.facts.specs.declared.contexts.Fact.TheVariants.{In}
use Rattle.normal_forms.specs.declared.forms.Class2.TheVariants.{Expr}
use Rattle.explain.proofs.derivations.lines_of.Goals as goal

pub returns-in_default : goal.returns-in_default
returns-in_default c = no_fact c.args.indexed.now.ontology c.args.indexed.now.saturation c.args.subject c.args.class (subst (λ (k : Closed). IsSaturated k.ontology k.saturation) c.closed-closed.ensures c.well_formed-2.ensures.saturated) c.in_default.ensures

pub add_goal-requires-clause-counted : goal.add_goal-requires-clause-counted
add_goal-requires-clause-counted c = (goal_within _ _ c.in-Some.goal c.in-Some.ensures).0

pub add_goal-requires-clause-there : goal.add_goal-requires-clause-there
add_goal-requires-clause-there c =
    subst (λ (k : Closed). c.in-Some.goal ≤ length k.saturation.state.facts) (sym c.closed-closed.ensures) (goal_within _ _ c.in-Some.goal c.in-Some.ensures).1

pub returns : goal.returns
returns c =
    let (f, at, is) = c.in-Some.ensures in
    subst (λ (k : Closed). (class : ExprId) (y : Context) → at_number k.saturation.state.facts c.in-Some.goal ≡ Some (In (Expr class) y) → Derives k.ontology (Sub (subject_of (context_of y)) class.0) (lines_of c.in_ok-lines.lines.items))
    c.closed-closed.ensures c.in_ok-lines.ensures c.args.class c.args.subject (at ∙ ap Some is)
