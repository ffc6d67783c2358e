use Rattle.std.proofs.Common.{sym, subst}
use Rattle.axioms.specs.Ontology.{Ontology}
use Rattle.certificate.specs.View.{listed_of}
use Rattle.certificate.specs.Writability.{IsListedOf}
use Rattle.exactness.specs.ListedInterpretation.{IsListedInterpretation}
use Rattle.exactness.proofs.Complete.{listed_is_model, listed_agrees}
use Rattle.interpretation_spec.specs.NamedInterpretation.{interpretation_of}
use Rattle.interpretation_spec.specs.NumberedInterpretation.{IsMadeFor}
use Rattle.listed_model.specs.Listing.{IsListing}
use Rattle.interpretation_spec.proofs.Names.{stands_well}
use Rattle.countermodel.proofs.SameMembers.{same_members}
use Rattle.countermodel.proofs.building.build.Goals as goal

pub interpretation_of-requires : goal.interpretation_of-requires
interpretation_of-requires c = subst (λ (x : Ontology). IsListedOf x (listed_of c.in_ok-members.members)) (sym c.ontology-ontology.ensures) c.in_ok-members.ensures.text

pub returns-clause-made : goal.returns-clause-made
returns-clause-made c = subst (λ (x : Ontology). IsMadeFor x.names c.in_ok-interpretation.interpretation) c.ontology-ontology.ensures c.in_ok-interpretation.ensures.made

pub returns-clause-built : goal.returns-clause-built
returns-clause-built c =
    let o = c.args.closed.now.ontology in
    let asked = c.args.closed.now.saturation.normal.asked in
    let w = c.well_formed-2.ensures.ontology in
    let there = c.well_formed-2.ensures.saturated.asked in
    let i = c.in_ok-interpretation.interpretation in
    let for = c.in_ok-members.ensures.listed in
    let v = stands_well o w i c.well_formed-3.ensures in
    let listing = subst (λ (x : Ontology). IsListing x (listed_of c.in_ok-members.members) (interpretation_of x.names i)) c.ontology-ontology.ensures c.in_ok-interpretation.ensures.listing in
    let listed : IsListedInterpretation o asked for.elements (interpretation_of o.names i) =
    same_members o asked w (listed_of c.in_ok-members.members) c.in_ok-members.ensures.text for.elements for.i (interpretation_of o.names i) for.interpretation for.listing listing v in
    record {
      elements = for.elements;
      listed = listed;
      agrees = listed_agrees o asked for.elements (interpretation_of o.names i) w there listed;
      model = listed_is_model o asked for.elements (interpretation_of o.names i) w there listed c.requires.consistent;
    }
