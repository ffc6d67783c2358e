use Rattle.std.proofs.Common.{◌∙◌, subst, sym}
use Rattle.std.proofs.lemmas.Bool.{false≢true}
use Rattle.axioms.specs.WellFormedness.{IsOntology}
use Rattle.engine.specs.Closed.{Closed}
use Rattle.engine.specs.Saturations.{IsSaturated}
use Rattle.entailment.proofs.Members.{by_fact, without_fact}
use Rattle.entailment.proofs.tester.is_member.Goals as goal

pub returns-then-has_fact : goal.returns-then-has_fact
returns-then-has_fact c =
    let w = subst (λ (k : Closed). IsOntology k.ontology) c.closed.ensures c.well_formed-2.ensures.ontology in
    let h = subst (λ (k : Closed). IsSaturated k.ontology k.saturation) c.closed.ensures c.well_formed-2.ensures.saturated in
    (λ t. by_fact c.args.indexed.now w h c.args.individual c.args.class c.requires.there c.requires.root (c.has_fact.ensures.0 c.if-has_fact.true), λ m. c.if-has_fact.true)

pub returns-else-has_fact : goal.returns-else-has_fact
returns-else-has_fact c =
    let w = subst (λ (k : Closed). IsOntology k.ontology) c.closed.ensures c.well_formed-2.ensures.ontology in
    let h = subst (λ (k : Closed). IsSaturated k.ontology k.saturation) c.closed.ensures c.well_formed-2.ensures.saturated in
    without_fact c.args.indexed.now w h c.args.individual c.args.class c.requires.there c.requires.root (λ there. false≢true (sym c.if-has_fact.false ∙ c.has_fact.ensures.1 there)) c.is_consistent.result c.is_consistent.ensures
