use Rattle.std.proofs.Common.{ℕ, List, ◌<◌, ◌^◌, map, Some, All, sym, subst}
use Rattle.axioms.specs.Ontology.{Ontology}
use Rattle.axioms.specs.Growth.{IsBounded}
use Rattle.certificate.specs.Certificate.{Listed}
use Rattle.certificate.specs.Writability.{IsListedOf, listed_numbers}
use Rattle.certificate.specs.View.{class_row_of, pair_row_of, claim_of}
use Rattle.certificate.specs.declared.listed.ClassRow.{ClassRow}
use Rattle.exactness.specs.Acceptance.{IsListedFor}
use Rattle.countermodel.specs.Leading.{AreGroupsOf}
use Rattle.countermodel.specs.MemberRows.{AreClassRows, AreIndividualElements, AreOwnClaims, HaveIndividuals}
use Rattle.countermodel.proofs.FirstIndividuals.{least_there}
use Rattle.countermodel.proofs.Interpreted.{listed_for, listed_of, numbers_small}
use Rattle.countermodel.proofs.PartFacts.{all_facts}
use Rattle.countermodel.proofs.Taken.{all_taken}
use Rattle.countermodel.proofs.interpretation.listed.Goals as goal

pub add_class_rows-requires-clause-facts : goal.add_class_rows-requires-clause-facts
add_class_rows-requires-clause-facts c = all_facts c.in_ok-elements.elements c.args.closed.now.saturation.state.facts c.facts-facts.result.now c.facts-facts.ensures

pub individual_elements-requires-clause-groups : goal.individual_elements-requires-clause-groups
individual_elements-requires-clause-groups c =
    let asked = c.args.closed.now.saturation.normal.asked in
    (asked, subst (λ (x : Ontology). AreGroupsOf x asked c.groups_of-groups.result.now) (sym c.ontology-ontology.ensures) c.groups_of-groups.ensures)

pub individual_elements-requires-clause-there : goal.individual_elements-requires-clause-there
individual_elements-requires-clause-there c =
    let elements = c.in_ok-elements.elements in
    subst (λ (x : Ontology). HaveIndividuals x elements) (sym c.ontology-ontology.ensures)
    (least_there c.args.closed.now.ontology c.args.closed.now.saturation.normal.asked elements c.in_ok-elements.ensures c.requires.consistent)

pub returns : goal.returns
returns c =
    let o = c.args.closed.now.ontology in
    let asked = c.args.closed.now.saturation.normal.asked in
    let w = c.well_formed-2.ensures.ontology in
    let elements = c.in_ok-elements.elements in
    let are = c.in_ok-elements.ensures in
    let classes = map class_row_of c.add_class_rows.new.rows.items in
    let class_rows : AreClassRows o asked elements classes =
    all_taken (λ (rows : List ClassRow). AreClassRows o asked elements (map class_row_of rows)) c.new-classes.result.items c.add_class_rows.new.rows.items c.new-classes.ensures.items c.in_ok-add_class_rows.ensures in
    let pairs = map pair_row_of c.in_ok-pairs.pairs.items in
    let numbers = c.in_ok-individuals.individuals.items in
    let claims = map claim_of c.in_ok-claims.claims.items in
    let is = c.ontology-ontology.ensures in
    let individuals = subst (λ (x : Ontology). AreIndividualElements x elements numbers) is c.in_ok-individuals.ensures in
    let own = subst (λ (x : Ontology). AreOwnClaims x elements claims) is c.in_ok-claims.ensures in
    let bounded = subst (λ (x : Ontology). IsBounded x) is c.bounded.ensures in
    let with_domain : ℕ → Listed = λ n. record { domain = n; classes = classes; pairs = pairs; individuals = numbers; claims = claims } in
    record {
      listed = subst (λ n. IsListedFor o asked (with_domain n)) (sym c.len.ensures)
          (listed_for o asked w c.requires.consistent elements are classes class_rows pairs c.in_ok-pairs.ensures numbers individuals claims own);
      text = subst (λ n. IsListedOf o (with_domain n)) (sym c.len.ensures)
          (listed_of o asked w c.requires.consistent elements are classes class_rows pairs c.in_ok-pairs.ensures numbers individuals claims own);
      numbers = subst (λ n. All (λ k. k < 2 ^ 32) (listed_numbers (Some (with_domain n)))) (sym c.len.ensures)
          (numbers_small o asked w c.requires.consistent elements are classes class_rows pairs c.in_ok-pairs.ensures numbers individuals claims own bounded (subst (λ n. n < 2 ^ 32) c.len.ensures c.len.type_inv));
    }
