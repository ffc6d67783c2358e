use Rattle.std.proofs.Common.{◌≡◌, ◌↔◌, IsTrue, length, not, subst, sym, ap, ◌∙◌}
use Rattle.std.proofs.lemmas.Bool.{false≢true}
use Rattle.axioms.specs.Ontology.{Ontology}
use Rattle.axioms.specs.WellFormedness.{IsOntology}
use Rattle.engine.specs.Closed.{Closed}
use Rattle.engine.specs.Saturations.{IsSaturated}
use Rattle.exactness.specs.ListedInterpretation.{IsConsistent}
use Rattle.normalise.specs.Problem.{prefixes_of}
use Rattle.classification.specs.Contradiction.{IsFreeOfNothing, NoIndividualIsImpossible}
use Rattle.classification.proofs.Saying.{consistent_by_finding}
use Rattle.classification.proofs.consistent.is_consistent.Goals as goal

-- what is lent says so of the ontology
by_finding : (lent own : Closed) → lent ≡ own → IsOntology lent.ontology → IsSaturated lent.ontology lent.saturation
    → IsFreeOfNothing own.ontology own.saturation.state.facts ↔ IsConsistent own.ontology own.saturation.normal.asked
by_finding lent own same w h =
    let s = own.saturation in
    consistent_by_finding own.ontology s.normal.asked (subst (λ c. IsOntology c.ontology) same w) (prefixes_of s.normal) s.state.facts
    ((subst (λ c. IsSaturated c.ontology c.saturation) same h).facts)

pub returns-then-not-is_in_nothing : goal.returns-then-not-is_in_nothing
returns-then-not-is_in_nothing c =
    let lent = c.closed-closed in
    let by = by_finding lent.result.now c.args.indexed.now lent.ensures c.well_formed-2.ensures.ontology c.well_formed-2.ensures.saturated in
    let many = c.individuals.ensures.count ∙ ap (λ (o : Ontology). length o.names.individuals) (c.ontology-ontology.ensures ∙ ap (λ (k : Closed). k.ontology) lent.ensures) in
    let none = c.has_no_impossible_individual in
    let free = subst (λ n. IsTrue none.result ↔ NoIndividualIsImpossible n c.args.indexed.now.saturation.state.facts) many none.ensures in (
      λ t. by.0 ((λ there. false≢true (sym c.if-not-is_in_nothing.true ∙ c.is_in_nothing.ensures.1 there)), free.0 t),
      λ k. free.1 ((by.1 k).1),
    )

pub returns-else-not-is_in_nothing : goal.returns-else-not-is_in_nothing
returns-else-not-is_in_nothing c =
    let by = by_finding c.closed-closed.result.now c.args.indexed.now c.closed-closed.ensures c.well_formed-2.ensures.ontology c.well_formed-2.ensures.saturated in
    let there = c.is_in_nothing.ensures.0 c.if-not-is_in_nothing.false in (
      λ t. absurd (false≢true (subst (λ b. IsTrue (not b)) c.if-not-is_in_nothing.false t)),
      λ k. absurd ((by.1 k).0 there),
    )
