use Rattle.std.proofs.Common.{Option, MatchOption, ℕ, sym, ◌∙◌, subst}
use Rattle.std.proofs.lemmas.Result.{IfOk-weaker}
use Rattle.axioms.specs.Ontology.{axiom_trees}
use Rattle.certificate.specs.View.{listed_of}
use Rattle.interpretation_spec.specs.NamedInterpretation.{IsFirstUnsatisfied}
use Rattle.interpretation_spec.specs.Interpretation.{IsModel}
use Rattle.cert_check.specs.Verdict.{ConsistentAgainstShown, RelationAgainstLists}
use Rattle.cert_check.proofs.Preorders.{agreed_claims_are_preorder}
use Rattle.cert_check.proofs.Relations.{superclasses_fit, types_fit}
use Rattle.cert_check.proofs.Verdicts.{of_claims, all_claims, of_texts}
use Rattle.cert_check.proofs.checker.against_listed.Goals as goal

pub returns-then-is_some : goal.returns-then-is_some
returns-then-is_some c = λ lines above_is types_are.
    let o = c.args.ontology.now in
    let l = listed_of c.args.listed.now in
    let found = c.in_ok-axiom.ensures in
    let i = found.0 in
    let model = subst (λ (f : Option ℕ). MatchOption f (IsModel i (axiom_trees o)) (IsFirstUnsatisfied o i)) c.in_default.is found.3 in
    let claims = c.in_ok-claims.ensures lines above_is types_are i found.1 found.2 in
    record {
      i = i;
      listing = found.1;
      interpretation = found.2;
      against = of_claims o c.args.taxonomy.now c.args.instances.now lines l i c.in_ok-claims.claims (sym c.is_some.ensures ∙ c.if-is_some.true) model claims;
    }

pub against_claims-requires-clause-above : goal.against_claims-requires-clause-above
against_claims-requires-clause-above c = superclasses_fit c.args.ontology.now c.well_formed-2.ensures _ c.args.lines.above c.requires.derived.1.superclasses

pub against_claims-requires-clause-types : goal.against_claims-requires-clause-types
against_claims-requires-clause-types c = types_fit c.args.ontology.now c.well_formed-2.ensures _ c.args.lines.types c.requires.derived.1.members

pub against_relation-requires-clause-types : goal.against_relation-requires-clause-types
against_relation-requires-clause-types c = types_fit c.args.ontology.now c.well_formed-2.ensures _ c.args.lines.types c.requires.derived.1.members

pub against_relation-requires-clause-preorder : goal.against_relation-requires-clause-preorder
against_relation-requires-clause-preorder c =
    let o = c.args.ontology.now in
    let l = listed_of c.args.listed.now in
    let (lines, shown, derived) = c.requires.derived in
    let above_is = shown.superclasses in
    let types_are = shown.members in
    let found = c.in_ok-axiom.ensures in
    let i = found.0 in
    let model = subst (λ (f : Option ℕ). MatchOption f (IsModel i (axiom_trees o)) (IsFirstUnsatisfied o i)) c.in_default.is found.3 in
    let agreed = all_claims o lines l i c.in_ok-claims.claims (sym c.is_some.ensures ∙ c.if-is_some.false) (c.in_ok-claims.ensures lines above_is types_are i found.1 found.2) in
    agreed_claims_are_preorder o c.well_formed-2.ensures lines derived l c.requires.listed i found.1 model agreed c.args.lines.above above_is

pub returns : goal.returns
returns c =
    let o = c.args.ontology.now in
    let l = listed_of c.args.listed.now in
    let t = c.args.taxonomy.now in
    let s = c.args.instances.now in
    let found = c.in_ok-axiom.ensures in
    let i = found.0 in
    let model = subst (λ (f : Option ℕ). MatchOption f (IsModel i (axiom_trees o)) (IsFirstUnsatisfied o i)) c.in_default.is found.3 in
    IfOk-weaker c.against_relation.result (RelationAgainstLists o t s c.args.lines.above c.args.lines.types) (ConsistentAgainstShown o t s c.args.lines.above c.args.lines.types l)
    (λ reason h lines above_is types_are.
    let agreed = all_claims o lines l i c.in_ok-claims.claims (sym c.is_some.ensures ∙ c.if-is_some.false) (c.in_ok-claims.ensures lines above_is types_are i found.1 found.2) in
    record {
      i = i;
      listing = found.1;
      interpretation = found.2;
      against = of_texts o t s lines l i reason model agreed (h lines above_is types_are);
    })
    c.against_relation.ensures
