use Rattle.std.proofs.Common.{◌≡◌, ◌↔◌, true, subst, sym}
use Rattle.axioms.specs.Ontology.{axiom_trees, expression, individual_name}
use Rattle.closure.specs.Closure.{Expression, IsRoot}
use Rattle.engine.specs.Closed.{Closed}
use Rattle.entailment.proofs.Asking.{is_root}
use Rattle.interpretation_spec.specs.Interpretation.{IsMember}
use Rattle.entailment.proofs.tester.Tester.is_tested.Goals as goal

pub is_member-requires-clause-root : goal.is_member-requires-clause-root
is_member-requires-clause-root c =
    let P : Closed → Type 0 = λ i. IsRoot i.ontology i.saturation.normal.asked (Expression c.args.class.0) in
    subst P (sym c.in-Some.ensures.some) (is_root c.args.test.now c.args.class.0 _ c.requires.class c.in_ok-saturation.ensures.asked)

pub returns-clause-exact : goal.returns-clause-exact
returns-clause-exact c =
    let P : Closed → Type 0 = λ i. (c.is_member.result ≡ true) ↔ IsMember (axiom_trees i.ontology) (individual_name i.ontology c.args.individual.0) (expression i.ontology c.args.class.0) in
    subst P c.in-Some.ensures.some c.is_member.ensures
