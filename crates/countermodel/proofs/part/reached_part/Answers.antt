use Rattle.std.proofs.Common.{List, map, Some, sym, ap, ◌∙◌, subst}
use Rattle.axioms.specs.Ontology.{Ontology}
use Rattle.axioms.specs.WellFormedness.{IsOntology}
use Rattle.certificate.specs.View.{class_row_of, pair_row_of, claim_of}
use Rattle.certificate.specs.declared.listed.PairRow.{PairRow}
use Rattle.closure.specs.Closure.{Context}
use Rattle.closure.specs.Denotations.{context_of}
use Rattle.engine.specs.Closed.{Closed}
use Rattle.exactness.specs.ListedInterpretation.{IsSatisfiable, Leads}
use Rattle.facts.specs.declared.contexts.Fact.{Fact}
use Rattle.countermodel.specs.ContextLists.{AreAll}
use Rattle.countermodel.specs.FactsOf.{AreFactsOf}
use Rattle.countermodel.specs.Leading.{AreGroupsOf}
use Rattle.countermodel.specs.MemberRows.{AreClassRows, AreIndividualElements, HaveIndividuals}
use Rattle.countermodel.specs.PairRows.{ArePairRows}
use Rattle.countermodel.specs.Reached.{IsReachedFrom, itself}
use Rattle.countermodel.proofs.PartListed.{individuals_there, leader_leads, leader_satisfiable, part_fits}
use Rattle.countermodel.proofs.Taken.{all_taken}
use Rattle.countermodel.proofs.part.reached_part.Goals as goal

pub reached_elements-requires-clause-groups : goal.reached_elements-requires-clause-groups
reached_elements-requires-clause-groups c =
    subst (λ (k : Closed). AreGroupsOf k.ontology k.saturation.normal.asked c.groups_of-groups.result.now) c.closed-closed.ensures c.groups_of-groups.ensures

pub reached_elements-requires-clause-satisfiable : goal.reached_elements-requires-clause-satisfiable
reached_elements-requires-clause-satisfiable c =
    let o = c.args.indexed.now.ontology in
    let asked = c.args.indexed.now.saturation.normal.asked in
    let w = subst (λ (k : Closed). IsOntology k.ontology) c.closed-closed.ensures c.well_formed-2.ensures.ontology in
    let groups = subst (λ (k : Closed). AreGroupsOf k.ontology k.saturation.normal.asked c.groups_of-groups.result.now) c.closed-closed.ensures c.groups_of-groups.ensures in
    subst (IsSatisfiable o asked) (sym (c.leader_of-from.ensures o asked groups))
    (leader_satisfiable o asked c.requires.consistent w (context_of c.args.context) c.requires.satisfiable)

pub reached_elements-requires-clause-leads : goal.reached_elements-requires-clause-leads
reached_elements-requires-clause-leads c =
    let o = c.args.indexed.now.ontology in
    let asked = c.args.indexed.now.saturation.normal.asked in
    let groups = subst (λ (k : Closed). AreGroupsOf k.ontology k.saturation.normal.asked c.groups_of-groups.result.now) c.closed-closed.ensures c.groups_of-groups.ensures in
    subst (Leads o asked) (sym (c.leader_of-from.ensures o asked groups))
    (leader_leads o asked (context_of c.args.context))

pub unreachable-requires : goal.unreachable-requires
unreachable-requires c = (let own = c.in_ok-elements.ensures.all (context_of c.leader_of-from.result) itself in c.in_default.ensures own.0 own.1)

pub class_rows_of-requires-clause-facts : goal.class_rows_of-requires-clause-facts
class_rows_of-requires-clause-facts c =
    let k = c.closed-closed.result.now in
    let elements = c.in_ok-elements.elements in
    let facts = c.in_ok-facts.facts.items in
    let of = subst (λ (xs : List Context). AreFactsOf xs c.args.indexed.now.saturation.state.facts facts) c.contexts.ensures.contexts c.in_ok-facts.ensures in
    let here = subst (λ (k : Closed). AreFactsOf elements k.saturation.state.facts facts) (sym c.closed-closed.ensures) of in
    subst (λ (fs : List Fact). AreFactsOf elements k.saturation.state.facts fs) (sym c.deref.ensures.value) here

pub add_pair_rows-requires-clause-facts : goal.add_pair_rows-requires-clause-facts
add_pair_rows-requires-clause-facts c =
    let k = c.closed-closed.result.now in
    let elements = c.in_ok-elements.elements in
    let facts = c.in_ok-facts.facts.items in
    let of = subst (λ (xs : List Context). AreFactsOf xs c.args.indexed.now.saturation.state.facts facts) c.contexts.ensures.contexts c.in_ok-facts.ensures in
    let here = subst (λ (k : Closed). AreFactsOf elements k.saturation.state.facts facts) (sym c.closed-closed.ensures) of in
    subst (λ (fs : List Fact). AreFactsOf elements k.saturation.state.facts fs) (sym c.deref-2.ensures.value) here

pub individual_elements-requires-clause-groups : goal.individual_elements-requires-clause-groups
individual_elements-requires-clause-groups c =
    let asked = c.closed-closed.result.now.saturation.normal.asked in
    (asked, subst (λ (o : Ontology). AreGroupsOf o asked c.groups_of-groups.result.now) (sym c.ontology-ontology.ensures) c.groups_of-groups.ensures)

pub individual_elements-requires-clause-there : goal.individual_elements-requires-clause-there
individual_elements-requires-clause-there c =
    let elements = c.in_ok-elements.elements in
    let is = c.ontology-ontology.ensures ∙ ap (λ (k : Closed). k.ontology) c.closed-closed.ensures in
    subst (λ (o : Ontology). HaveIndividuals o elements) (sym is)
    (individuals_there c.args.indexed.now.ontology c.args.indexed.now.saturation.normal.asked c.requires.consistent (context_of c.leader_of-from.result) elements c.in_ok-elements.ensures)

pub returns-clause-part : goal.returns-clause-part
returns-clause-part c =
    let k = c.closed-closed.result.now in
    let o = c.args.indexed.now.ontology in
    let asked = c.args.indexed.now.saturation.normal.asked in
    let elements = c.in_ok-elements.elements in
    let pairs = c.add_pair_rows.new.rows.items in
    let groups = subst (λ (k : Closed). AreGroupsOf k.ontology k.saturation.normal.asked c.groups_of-groups.result.now) c.closed-closed.ensures c.groups_of-groups.ensures in
    let is = c.leader_of-from.ensures o asked groups in
    let same = c.ontology-ontology.ensures ∙ ap (λ (k : Closed). k.ontology) c.closed-closed.ensures in
    record {
      elements = elements;
      reached = subst (λ (x : Context). AreAll (IsReachedFrom o asked x) elements) is c.in_ok-elements.ensures;
      own = c.in-Some.ensures ∙ ap Some is;
      domain = c.len.ensures;
      classes = subst (λ (k : Closed). AreClassRows k.ontology k.saturation.normal.asked elements (map class_row_of c.in_ok-classes.classes.items)) c.closed-closed.ensures
          c.in_ok-classes.ensures;
      pairs = subst (λ (k : Closed). ArePairRows k.ontology k.saturation.normal.asked elements (map pair_row_of pairs)) c.closed-closed.ensures
          (all_taken (λ (rs : List PairRow). ArePairRows k.ontology k.saturation.normal.asked elements (map pair_row_of rs)) c.new-pairs.result.items pairs c.new-pairs.ensures.items c.in_ok-add_pair_rows.ensures);
      individuals = subst (λ (x : Ontology). AreIndividualElements x elements c.in_ok-individuals.individuals.items) same c.in_ok-individuals.ensures;
    }

pub returns-clause-fits : goal.returns-clause-fits
returns-clause-fits c =
    let k = c.closed-closed.result.now in
    let o = c.args.indexed.now.ontology in
    let asked = c.args.indexed.now.saturation.normal.asked in
    let elements = c.in_ok-elements.elements in
    let rows = c.in_ok-classes.classes.items in
    let pairs = c.add_pair_rows.new.rows.items in
    let same = c.ontology-ontology.ensures ∙ ap (λ (k : Closed). k.ontology) c.closed-closed.ensures in
    let class_rows : AreClassRows o asked elements (map class_row_of rows) =
    subst (λ (k : Closed). AreClassRows k.ontology k.saturation.normal.asked elements (map class_row_of rows)) c.closed-closed.ensures
    c.in_ok-classes.ensures in
    let pair_rows : ArePairRows o asked elements (map pair_row_of pairs) =
    subst (λ (k : Closed). ArePairRows k.ontology k.saturation.normal.asked elements (map pair_row_of pairs)) c.closed-closed.ensures
    (all_taken (λ (rs : List PairRow). ArePairRows k.ontology k.saturation.normal.asked elements (map pair_row_of rs)) c.new-pairs.result.items pairs c.new-pairs.ensures.items c.in_ok-add_pair_rows.ensures) in
    let individuals = subst (λ (x : Ontology). AreIndividualElements x elements c.in_ok-individuals.individuals.items) same c.in_ok-individuals.ensures in
    part_fits o asked c.requires.consistent elements c.in-Some.number (context_of c.leader_of-from.result) c.in-Some.ensures (map class_row_of rows) class_rows
    (map pair_row_of pairs) pair_rows c.in_ok-individuals.individuals.items individuals c.len.result c.len.ensures (map claim_of c.new.result.items) (ap (map claim_of) c.new.ensures.items)
