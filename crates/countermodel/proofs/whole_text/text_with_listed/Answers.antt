use Rattle.std.proofs.Common.{◌<◌, ◌++◌, ◌^◌, List, ℕ, map, sym, ap, ap₂, ◌∙◌, subst}
use Rattle.std.specs.Prelude.{codes}
use Rattle.std.specs.List.{flat_map, enumerate_from}
use Rattle.std.proofs.lemmas.Result.{IfOk-weaker}
use Rattle.axioms.specs.Ontology.{Ontology}
use Rattle.axioms.specs.Growth.{IsBounded}
use Rattle.certificate.specs.Text.{individual_text, claim_text}
use Rattle.certificate_text.specs.LineText.{text_to_domain}
use Rattle.certificate.specs.View.{claim_of}
use Rattle.certificate.specs.declared.listed.Claim.{Claim}
use Rattle.countermodel.specs.Leading.{AreGroupsOf}
use Rattle.countermodel.specs.MemberRows.{AreIndividualElements, AreOwnClaims, HaveIndividuals}
use Rattle.countermodel.proofs.FirstIndividuals.{least_there}
use Rattle.countermodel.proofs.PartFacts.{all_facts}
use Rattle.countermodel.proofs.SpelledWhole.{whole_text}
use Rattle.countermodel.proofs.whole_text.text_with_listed.Goals as goal

pub add_class_rows-requires-clause-facts : goal.add_class_rows-requires-clause-facts
add_class_rows-requires-clause-facts g c = all_facts c.in_ok-elements.elements c.args.closed.now.saturation.state.facts c.facts-facts.result.now c.facts-facts.ensures

pub add_pair_rows-requires-clause-facts : goal.add_pair_rows-requires-clause-facts
add_pair_rows-requires-clause-facts g c = all_facts c.in_ok-elements.elements c.args.closed.now.saturation.state.facts c.facts-facts.result.now c.facts-facts.ensures

pub individual_elements-requires-clause-groups : goal.individual_elements-requires-clause-groups
individual_elements-requires-clause-groups g c =
    let asked = c.args.closed.now.saturation.normal.asked in
    (asked, subst (λ (x : Ontology). AreGroupsOf x asked c.groups_of-groups.result.now) (sym c.ontology-ontology.ensures) c.groups_of-groups.ensures)

pub individual_elements-requires-clause-there : goal.individual_elements-requires-clause-there
individual_elements-requires-clause-there g c =
    let elements = c.in_ok-elements.elements in
    subst (λ (x : Ontology). HaveIndividuals x elements) (sym c.ontology-ontology.ensures)
    (least_there c.args.closed.now.ontology c.args.closed.now.saturation.normal.asked elements c.in_ok-elements.ensures c.requires.consistent)

pub returns : goal.returns
returns g c =
    let elements = c.in_ok-elements.elements in
    let with_pairs = c.add_pair_rows.new.rows in
    let numbers = c.in_ok-individuals.individuals.items in
    let claims = c.in_ok-claims.claims.items in
    let is = c.ontology-ontology.ensures in
    let individuals = subst (λ (x : Ontology). AreIndividualElements x elements numbers) is c.in_ok-individuals.ensures in
    let own = subst (λ (x : Ontology). AreOwnClaims x elements (map claim_of claims)) is c.in_ok-claims.ensures in
    let bounded = subst (λ (x : Ontology). IsBounded x) is c.bounded.ensures in
    let ended = λ (ns : List ℕ) (ks : List Claim). with_pairs ++ flat_map individual_text (enumerate_from 0 ns) ++ flat_map claim_text (map claim_of ks) ++ codes "end\n" in
    IfOk-weaker c.end.result _ _
    (λ v spelled. whole_text c.args.closed.now.ontology c.args.closed.now.saturation.normal.asked c.well_formed-2.ensures.ontology bounded c.requires.consistent elements c.in_ok-elements.ensures (subst (λ n. n < 2 ^ 32) c.len.ensures c.len.type_inv) g.F.FormatType.format c.args.lines v.items
    (record {
      begun = c.in_ok-text.text;
      prefix = c.in_ok-text.ensures ∙ ap (text_to_domain g.F.FormatType.format c.args.lines) c.len.ensures;
      with_classes = c.add_class_rows.new.rows;
      classes = c.in_ok-add_class_rows.ensures;
      with_pairs = with_pairs;
      pairs = c.in_ok-add_pair_rows.ensures;
      numbers = numbers;
      individuals = individuals;
      claims = map claim_of claims;
      own = own;
      spelled = spelled ∙ ap₂ ended c.deref.ensures.value c.deref-2.ensures.value;
    }))
    c.end.ensures
