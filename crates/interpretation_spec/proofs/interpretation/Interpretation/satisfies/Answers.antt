use Rattle.std.proofs.Common.{◌<◌, ℕ, [], ◌∷◌, sym, ap, ◌∙◌, length, true≢false}
use Rattle.std.proofs.lemmas.Bool.{false_from_ne_true, not-true, not_from_false}
use Rattle.std.proofs.lemmas.List.Elements.{All-cons, All-nil}
use Rattle.axioms.specs.Ontology.{expression}
use Rattle.axioms.specs.View.{ind_numbers, prop_numbers}
use Rattle.axioms.specs.WellFormedness.{AreOperands}
use Rattle.number_sets.specs.Members.{has}
use Rattle.interpretation_spec.proofs.Steps.{said_by}
use Rattle.interpretation_spec.proofs.Shapes.{sub_property_said, same_properties_said, domain_said, reflexive_said, class_assertion_said, property_assertion_said, same_individuals_said, different_individuals_said}
use Rattle.interpretation_spec.proofs.interpretation.Interpretation.satisfies.Goals as goal

pub returns-in-SubClass : goal.returns-in-SubClass
returns-in-SubClass c = rw c.in-SubClass.is c.is_within.ensures

pub returns-in-EquivalentClasses : goal.returns-in-EquivalentClasses
returns-in-EquivalentClasses c = rw (c.in-EquivalentClasses.is, ← c.deref.ensures.value) c.are_same.ensures

pub returns-in-DisjointClasses : goal.returns-in-DisjointClasses
returns-in-DisjointClasses c = rw (c.in-DisjointClasses.is, ← c.deref-in-DisjointClasses.ensures.value) c.are_apart.ensures

pub returns-in-SubProperty : goal.returns-in-SubProperty
returns-in-SubProperty c =
    let o = c.args.ontology.now in
    let whole = c.well_formed-3.ensures in
    let of = rw c.in-SubProperty.is at c.requires.of in
    let said = sub_property_said o c.well_formed-2.ensures c.args.self.now whole (prop_numbers c.in-SubProperty.chain.items) c.in-SubProperty.sup.0 of.1 of.2 in
    rw c.in-SubProperty.is (said_by said c.is_sub_property.result (rw c.deref-in-SubProperty.ensures.value at c.is_sub_property.ensures))

pub returns-in-Transitive : goal.returns-in-Transitive
returns-in-Transitive c =
    let o = c.args.ontology.now in
    let whole = c.well_formed-3.ensures in
    let r = c.in-Transitive.property.0 in
    let of = rw c.in-Transitive.is at c.requires.of in
    let P : ℕ → Type 0 = λ (r : ℕ). r < length o.names.properties in
    let said = sub_property_said o c.well_formed-2.ensures c.args.self.now whole (r ∷ r ∷ []) r (All-cons P r (r ∷ []) of (All-cons P r [] of (All-nil P))) of in
    rw c.in-Transitive.is (said_by said c.is_sub_property-in-Transitive.result c.is_sub_property-in-Transitive.ensures)

pub returns-in-EquivalentProperties : goal.returns-in-EquivalentProperties
returns-in-EquivalentProperties c =
    let o = c.args.ontology.now in
    let whole = c.well_formed-3.ensures in
    let of = rw c.in-EquivalentProperties.is at c.requires.of in
    let said = same_properties_said o c.well_formed-2.ensures c.args.self.now whole (prop_numbers c.in-EquivalentProperties.properties.items) of.within in
    let e = rw c.deref-in-EquivalentProperties.ensures.value at c.are_same_properties.ensures in
    rw c.in-EquivalentProperties.is (λ t. said.0 (e.0 t), λ q. e.1 (said.1 q))

pub returns-in_ok-members-in-Domain : goal.returns-in_ok-members-in-Domain
returns-in_ok-members-in-Domain c =
    let o = c.args.ontology.now in
    let whole = c.well_formed-3.ensures in
    let of = rw c.in-Domain.is at c.requires.of in
    let said = domain_said o c.well_formed-2.ensures c.args.self.now whole c.in-Domain.property.0 (expression o c.in-Domain.class.0) c.in_ok-members-in-Domain.members of.0 c.in_ok-members-in-Domain.ensures in
    let e = c.has_sources_in.ensures in
    rw c.in-Domain.is (λ t. said.0 (e.0 t), λ q. e.1 (said.1 q))

pub returns-in-Reflexive : goal.returns-in-Reflexive
returns-in-Reflexive c =
    let o = c.args.ontology.now in
    let whole = c.well_formed-3.ensures in
    let of = rw c.in-Reflexive.is at c.requires.of in
    let said = reflexive_said o c.well_formed-2.ensures c.args.self.now whole c.in-Reflexive.property.0 of in
    let e = c.is_reflexive.ensures in
    rw c.in-Reflexive.is (λ t. said.0 (e.0 t), λ q. e.1 (said.1 q))

pub returns-in_ok-members-in-ClassAssertion : goal.returns-in_ok-members-in-ClassAssertion
returns-in_ok-members-in-ClassAssertion c =
    let o = c.args.ontology.now in
    let n = c.args.self.now in
    let whole = c.well_formed-3.ensures in
    let of = rw c.in-ClassAssertion.is at c.requires.of in
    let a = c.in-ClassAssertion.individual.0 in
    let members = c.in_ok-members-in-ClassAssertion.members in
    let said = class_assertion_said o c.well_formed-2.ensures n whole (expression o c.in-ClassAssertion.class.0) a members of.1 c.requires.made_for.individuals c.in_ok-members-in-ClassAssertion.ensures in
    let e = c.contains.ensures ∙ ap (has members) c.element_at.ensures.value in
    rw c.in-ClassAssertion.is (λ t. said.0 (sym e ∙ t), λ q. e ∙ said.1 q)

pub returns-in-PropertyAssertion : goal.returns-in-PropertyAssertion
returns-in-PropertyAssertion c =
    let o = c.args.ontology.now in
    let whole = c.well_formed-3.ensures in
    let of = rw c.in-PropertyAssertion.is at c.requires.of in
    let p = c.in-PropertyAssertion in
    let said = property_assertion_said o c.well_formed-2.ensures c.args.self.now whole p.property.0 p.source.0 p.target.0 of.0 of.1 of.2 in
    let e = c.joins.ensures in
    rw c.in-PropertyAssertion.is (λ t. said.0 (sym e ∙ t), λ q. e ∙ said.1 q)

pub returns-in-SameIndividuals : goal.returns-in-SameIndividuals
returns-in-SameIndividuals c =
    let o = c.args.ontology.now in
    let whole = c.well_formed-3.ensures in
    let xs = ind_numbers c.in-SameIndividuals.individuals.items in
    let of : AreOperands (length o.names.individuals) xs = rw c.in-SameIndividuals.is at c.requires.of in
    let said = same_individuals_said o c.well_formed-2.ensures c.args.self.now whole xs of.within in
    let e = rw c.deref-in-SameIndividuals.ensures.value at c.have_one_element.ensures in
    rw c.in-SameIndividuals.is (λ t. said.0 (e.0 t), λ q. e.1 (said.1 q))

pub returns-in-DifferentIndividuals : goal.returns-in-DifferentIndividuals
returns-in-DifferentIndividuals c =
    let o = c.args.ontology.now in
    let whole = c.well_formed-3.ensures in
    let xs = ind_numbers c.in-DifferentIndividuals.individuals.items in
    let of : AreOperands (length o.names.individuals) xs = rw c.in-DifferentIndividuals.is at c.requires.of in
    let said = different_individuals_said o c.well_formed-2.ensures c.args.self.now whole xs of.within in
    rw c.in-DifferentIndividuals.is (said_by said c.have_own_elements.result (rw c.deref-in-DifferentIndividuals.ensures.value at c.have_own_elements.ensures))

pub returns-in-NegativePropertyAssertion : goal.returns-in-NegativePropertyAssertion
returns-in-NegativePropertyAssertion c =
    let o = c.args.ontology.now in
    let whole = c.well_formed-3.ensures in
    let p = c.in-NegativePropertyAssertion in
    let of : (p.property.0 < length o.names.properties) × (p.source.0 < length o.names.individuals) × (p.target.0 < length o.names.individuals) = rw p.is at c.requires.of in
    let said = property_assertion_said o c.well_formed-2.ensures c.args.self.now whole p.property.0 p.source.0 p.target.0 of.0 of.1 of.2 in
    let joined = c.joins-in-NegativePropertyAssertion in
    let e = joined.ensures in
    rw p.is (
      λ t s. true≢false (sym (e ∙ said.1 s) ∙ not-true joined.result t),
      λ q. not_from_false joined.result (false_from_ne_true joined.result (λ j. q (said.0 (sym e ∙ j)))),
    )
