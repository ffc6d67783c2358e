use Rattle.std.proofs.Common.{sym, subst}
use Rattle.axioms.specs.Ontology.{Ontology}
use Rattle.certificate.specs.View.{listed_of}
use Rattle.certificate.specs.Writability.{IsListedOf}
use Rattle.closure.specs.Denotations.{context_of}
use Rattle.interpretation_spec.specs.NamedInterpretation.{interpretation_of}
use Rattle.interpretation_spec.specs.NumberedInterpretation.{IsMadeFor}
use Rattle.listed_model.specs.Listing.{IsListing}
use Rattle.normalise.specs.Problem.{prefixes_of}
use Rattle.classification.proofs.Existing.{listed}
use Rattle.answers.proofs.Lent.{same_ontology, whole_ontology, whole_saturation}
use Rattle.answers.proofs.Parting.{part_reached}
use Rattle.answers.proofs.refuted.part_for.Goals as goal

pub interpretation_of-requires : goal.interpretation_of-requires
interpretation_of-requires c =
    subst (λ (o : Ontology). IsListedOf o (listed_of c.in_ok-members.members)) (sym (same_ontology c.ontology-ontology.ensures c.closed-closed.ensures)) c.in_ok-members.ensures.fits

pub returns : goal.returns
returns c =
    let o = c.args.indexed.now.ontology in
    let s = c.args.indexed.now.saturation in
    let w = whole_ontology c.closed-closed.ensures c.well_formed-2.ensures.ontology in
    let h = whole_saturation c.closed-closed.ensures c.well_formed-2.ensures.saturated in
    let is = same_ontology c.ontology-ontology.ensures c.closed-closed.ensures in
    let members = listed_of c.in_ok-members.members in
    let part = c.in_ok-part.part in
    let (xs, i, are) = listed o s.normal.asked w (prefixes_of s.normal) s.state.problem h.problem s.state.facts h.facts c.requires.consistent in
    part_reached o s.normal.asked w h.asked c.requires.consistent xs i are (context_of c.args.context) c.requires.satisfiable members c.in_ok-members.element c.in_ok-members.ensures.part
    part c.well_formed-3.ensures
    (subst (λ (o : Ontology). IsListing o members (interpretation_of o.names part)) is c.in_ok-part.ensures.listing)
    (subst (λ (o : Ontology). IsMadeFor o.names part) is c.in_ok-part.ensures.made)
