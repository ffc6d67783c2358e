use Rattle.std.proofs.Common.{◌≡◌, ◌↔◌, ◌<◌, ℕ, List, [], ◌∷◌, sym, ap, ◌∙◌, subst, refl, length, true, true≢false, arith}
use Rattle.std.proofs.lemmas.Bool.{false_from_ne_true, not-true, not_from_false}
use Rattle.std.proofs.lemmas.List.Elements.{All-cons, All-nil}
use Rattle.axioms.specs.Axiom as tree
use Rattle.axioms.specs.Ontology.{expression, individual_name}
use Rattle.interpretation_spec.specs.Interpretation.{Satisfies}
use Rattle.listed_model.specs.Interpretations.{listed_interpretation}
use Rattle.axioms.specs.View.{prop_numbers, expr_numbers, ind_numbers}
use Rattle.axioms.specs.WellFormedness.{AreOperands}
use Rattle.certificate.specs.View.{listed_of}
use Rattle.interpretation_spec.proofs.Steps.{said_by}
use Rattle.listed_model.specs.Extensions.{IsElement}
use Rattle.listed_model.specs.Listing.{element_of, targets_of}
use Rattle.listed_model.specs.Members.{holds}
use Rattle.listed_model.specs.Rows.{ArePairRows, ClosedAt, HasListedPath}
use Rattle.listed_model.proofs.Given.{pair_rows_given}
use Rattle.listed_model.proofs.Said.{within_said, all_same_said, all_apart_said, sub_property_said, same_properties_said, domain_said, reflexive_said, class_assertion_said, property_assertion_said, same_individuals_said, different_individuals_said}
use Rattle.listed_model.proofs.tester.Tester.satisfies.Goals as goal

-- what a path of two along one property is
two_steps : (rows : List (ℕ × ℕ × List ℕ)) (r : ℕ) → ((x : ℕ) → ClosedAt rows r x) ↔ ((x y : ℕ) → HasListedPath rows (r ∷ r ∷ []) x y → holds (targets_of rows r x) y ≡ true)
two_steps rows r = (
  λ h x y (z, t, (v, u, e)). subst (λ (w : ℕ). holds (targets_of rows r x) w ≡ true) e (h x z t v u),
  λ h x z t v u. h x v (z, t, (v, u, refl)),
)

pub is_within-requires-clause-sub : goal.is_within-requires-clause-sub
is_within-requires-clause-sub c = (rw c.in-SubClass.is at c.requires.of).0

pub is_within-requires-clause-sup : goal.is_within-requires-clause-sup
is_within-requires-clause-sup c = (rw c.in-SubClass.is at c.requires.of).1

pub are_same-requires-clause-there : goal.are_same-requires-clause-there
are_same-requires-clause-there c =
    let ds = expr_numbers c.in-EquivalentClasses.operands.items in
    let of : AreOperands (length c.args.self.now.ontology.now.nodes) ds = rw c.in-EquivalentClasses.is at c.requires.of in
    rw c.deref.ensures.value of.within

pub are_apart-requires-clause-there : goal.are_apart-requires-clause-there
are_apart-requires-clause-there c =
    let ds = expr_numbers c.in-DisjointClasses.operands.items in
    let of : AreOperands (length c.args.self.now.ontology.now.nodes) ds = rw c.in-DisjointClasses.is at c.requires.of in
    rw c.deref-in-DisjointClasses.ensures.value of.within

pub is_sub_property-requires-clause-rows : goal.is_sub_property-requires-clause-rows
is_sub_property-requires-clause-rows c = subst ArePairRows (sym c.deref-in-SubProperty.ensures.value) (pair_rows_given c.args.self.now.ontology.now c.args.self.now.listed.now c.requires.ready.listed)

pub are_same_properties-requires : goal.are_same_properties-requires
are_same_properties-requires c = subst ArePairRows (sym c.deref-in-EquivalentProperties.ensures.value) (pair_rows_given c.args.self.now.ontology.now c.args.self.now.listed.now c.requires.ready.listed)

pub has_domain-requires-clause-there : goal.has_domain-requires-clause-there
has_domain-requires-clause-there c = (rw c.in-Domain.is at c.requires.of).1

pub is_closed-requires-clause-rows : goal.is_closed-requires-clause-rows
is_closed-requires-clause-rows c = subst ArePairRows (sym c.deref-in-Transitive.ensures.value) (pair_rows_given c.args.self.now.ontology.now c.args.self.now.listed.now c.requires.ready.listed)

pub is_reflexive-requires : goal.is_reflexive-requires
is_reflexive-requires c = subst ArePairRows (sym c.deref-in-Reflexive.ensures.value) (pair_rows_given c.args.self.now.ontology.now c.args.self.now.listed.now c.requires.ready.listed)

pub is_in-requires-clause-there : goal.is_in-requires-clause-there
is_in-requires-clause-there c = (rw c.in-ClassAssertion.is at c.requires.of).0

pub returns-in-SubClass-clause-satisfied : goal.returns-in-SubClass-clause-satisfied
returns-in-SubClass-clause-satisfied c =
    let o = c.args.self.now.ontology.now in
    let l = listed_of c.args.self.now.listed.now in
    let said = within_said o c.well_formed-2.ensures l c.requires.ready.listed c.in-SubClass.sub.0 c.in-SubClass.sup.0 in
    rw c.in-SubClass.is (said_by said c.is_within.result c.is_within.ensures)

pub returns-in-EquivalentClasses-clause-satisfied : goal.returns-in-EquivalentClasses-clause-satisfied
returns-in-EquivalentClasses-clause-satisfied c =
    let o = c.args.self.now.ontology.now in
    let l = listed_of c.args.self.now.listed.now in
    let said = all_same_said o c.well_formed-2.ensures l c.requires.ready.listed (expr_numbers c.in-EquivalentClasses.operands.items) in
    rw c.in-EquivalentClasses.is (said_by said c.are_same.result (rw c.deref.ensures.value at c.are_same.ensures))

pub returns-in-DisjointClasses-clause-satisfied : goal.returns-in-DisjointClasses-clause-satisfied
returns-in-DisjointClasses-clause-satisfied c =
    let o = c.args.self.now.ontology.now in
    let l = listed_of c.args.self.now.listed.now in
    let said = all_apart_said o c.well_formed-2.ensures l c.requires.ready.listed (expr_numbers c.in-DisjointClasses.operands.items) in
    rw c.in-DisjointClasses.is (said_by said c.are_apart.result (rw c.deref-in-DisjointClasses.ensures.value at c.are_apart.ensures.apart))

pub returns-in-SubProperty-clause-satisfied : goal.returns-in-SubProperty-clause-satisfied
returns-in-SubProperty-clause-satisfied c =
    let o = c.args.self.now.ontology.now in
    let l = listed_of c.args.self.now.listed.now in
    let of = rw c.in-SubProperty.is at c.requires.of in
    let chain = c.in-SubProperty.chain.items in
    let said = sub_property_said o c.well_formed-2.ensures l c.requires.ready.listed (prop_numbers chain) c.in-SubProperty.above.0 of.0 of.1 of.2 in
    rw c.in-SubProperty.is (said_by said c.is_sub_property.result (rw (c.deref-in-SubProperty.ensures.value, c.deref-in-SubProperty-2.ensures.value) at c.is_sub_property.ensures.within))

pub returns-in-EquivalentProperties-clause-satisfied : goal.returns-in-EquivalentProperties-clause-satisfied
returns-in-EquivalentProperties-clause-satisfied c =
    let o = c.args.self.now.ontology.now in
    let l = listed_of c.args.self.now.listed.now in
    let of = rw c.in-EquivalentProperties.is at c.requires.of in
    let said = same_properties_said o c.well_formed-2.ensures l c.requires.ready.listed (prop_numbers c.in-EquivalentProperties.properties.items) of.within in
    let e = rw (c.deref-in-EquivalentProperties.ensures.value, c.deref-in-EquivalentProperties-2.ensures.value) at c.are_same_properties.ensures in
    rw c.in-EquivalentProperties.is (λ t. said.0 (e.0 t), λ q. e.1 (said.1 q))

pub returns-in-Domain-clause-satisfied : goal.returns-in-Domain-clause-satisfied
returns-in-Domain-clause-satisfied c =
    let o = c.args.self.now.ontology.now in
    let l = listed_of c.args.self.now.listed.now in
    let of = rw c.in-Domain.is at c.requires.of in
    let said = domain_said o c.well_formed-2.ensures l c.requires.ready.listed c.in-Domain.property.0 c.in-Domain.class.0 of.0 in
    rw c.in-Domain.is (said_by said c.has_domain.result c.has_domain.ensures)

pub returns-in-Transitive-clause-satisfied : goal.returns-in-Transitive-clause-satisfied
returns-in-Transitive-clause-satisfied c =
    let o = c.args.self.now.ontology.now in
    let l = listed_of c.args.self.now.listed.now in
    let of = rw c.in-Transitive.is at c.requires.of in
    let r = c.in-Transitive.property.0 in
    let P : ℕ → Type 0 = λ (r : ℕ). r < length o.names.properties in
    let said = sub_property_said o c.well_formed-2.ensures l c.requires.ready.listed (r ∷ r ∷ []) r (omega arith) (All-cons P r (r ∷ []) of (All-cons P r [] of (All-nil P))) of in
    let two = two_steps l.pairs r in
    rw c.in-Transitive.is (said_by (λ h. said.0 (two.0 h), λ q. two.1 (said.1 q)) c.is_closed.result (rw c.deref-in-Transitive.ensures.value at c.is_closed.ensures.transitive))

pub returns-in-Reflexive-clause-satisfied : goal.returns-in-Reflexive-clause-satisfied
returns-in-Reflexive-clause-satisfied c =
    let o = c.args.self.now.ontology.now in
    let l = listed_of c.args.self.now.listed.now in
    let of = rw c.in-Reflexive.is at c.requires.of in
    let said = reflexive_said o c.well_formed-2.ensures l c.requires.ready.listed c.in-Reflexive.property.0 of in
    let e = rw c.deref-in-Reflexive.ensures.value at c.is_reflexive.ensures in
    rw c.in-Reflexive.is (λ t. said.0 (e.0 t), λ q. e.1 (said.1 q))

pub is_in-requires-clause-element : goal.is_in-requires-clause-element
is_in-requires-clause-element c =
    let o = c.args.self.now.ontology.now in
    let l = listed_of c.args.self.now.listed.now in
    let of = rw c.in-ClassAssertion.is at c.requires.of in
    let a = c.in-ClassAssertion.individual.0 in
    let second : a < length o.names.individuals = of.1 in
    let at : c.element_at-element.result ≡ element_of l.individuals a = c.element_at-element.ensures ∙ ap (λ (ys : List ℕ). element_of ys a) c.deref-in-ClassAssertion.ensures.value in
    subst (λ (x : ℕ). x < l.domain) (sym at) (c.requires.ready.listed.individuals a 0 (omega (arith, c.requires.ready.listed.individuals_each)))

pub returns-in-ClassAssertion-clause-satisfied : goal.returns-in-ClassAssertion-clause-satisfied
returns-in-ClassAssertion-clause-satisfied c =
    let o = c.args.self.now.ontology.now in
    let l = listed_of c.args.self.now.listed.now in
    let of = rw c.in-ClassAssertion.is at c.requires.of in
    let d = c.in-ClassAssertion.class.0 in
    let a = c.in-ClassAssertion.individual.0 in
    let said = class_assertion_said o c.well_formed-2.ensures l c.requires.ready.listed d a of.1 in
    let at : c.element_at-element.result ≡ element_of l.individuals a = c.element_at-element.ensures ∙ ap (λ (ys : List ℕ). element_of ys a) c.deref-in-ClassAssertion.ensures.value in
    let here = subst (λ (x : ℕ). IsElement o l d x ↔ Satisfies (listed_interpretation o l) (tree.ClassAssertion (expression o d) (individual_name o a))) (sym at) said in
    rw c.in-ClassAssertion.is (said_by here c.is_in.result c.is_in.ensures)

pub joins-requires-clause-rows : goal.joins-requires-clause-rows
joins-requires-clause-rows c = pair_rows_given c.args.self.now.ontology.now c.args.self.now.listed.now c.requires.ready.listed

pub returns-in-PropertyAssertion-clause-satisfied : goal.returns-in-PropertyAssertion-clause-satisfied
returns-in-PropertyAssertion-clause-satisfied c =
    let o = c.args.self.now.ontology.now in
    let l = listed_of c.args.self.now.listed.now in
    let p = c.in-PropertyAssertion in
    let of = rw p.is at c.requires.of in
    let said = property_assertion_said o c.well_formed-2.ensures l c.requires.ready.listed p.property.0 p.source.0 p.target.0 of.0 of.1 of.2 in
    let e = c.joins.ensures in
    rw p.is (λ t. said.0 (sym e ∙ t), λ q. e ∙ said.1 q)

pub have_one_element-requires : goal.have_one_element-requires
have_one_element-requires c =
    let xs = ind_numbers c.in-SameIndividuals.individuals.items in
    let of : AreOperands (length c.args.self.now.ontology.now.names.individuals) xs = rw c.in-SameIndividuals.is at c.requires.of in
    rw (c.deref-in-SameIndividuals.ensures.value, c.deref-in-SameIndividuals-2.ensures.value, c.requires.ready.listed.individuals_each) of.within

pub returns-in-SameIndividuals-clause-satisfied : goal.returns-in-SameIndividuals-clause-satisfied
returns-in-SameIndividuals-clause-satisfied c =
    let o = c.args.self.now.ontology.now in
    let l = listed_of c.args.self.now.listed.now in
    let xs = ind_numbers c.in-SameIndividuals.individuals.items in
    let of : AreOperands (length o.names.individuals) xs = rw c.in-SameIndividuals.is at c.requires.of in
    let said = same_individuals_said o c.well_formed-2.ensures l c.requires.ready.listed xs of.within in
    let e = rw (c.deref-in-SameIndividuals.ensures.value, c.deref-in-SameIndividuals-2.ensures.value) at c.have_one_element.ensures in
    rw c.in-SameIndividuals.is (λ t. said.0 (e.0 t), λ q. e.1 (said.1 q))

pub have_own_elements-requires-clause-there : goal.have_own_elements-requires-clause-there
have_own_elements-requires-clause-there c =
    let xs = ind_numbers c.in-DifferentIndividuals.individuals.items in
    let of : AreOperands (length c.args.self.now.ontology.now.names.individuals) xs = rw c.in-DifferentIndividuals.is at c.requires.of in
    rw (c.deref-in-DifferentIndividuals.ensures.value, c.deref-in-DifferentIndividuals-2.ensures.value, c.requires.ready.listed.individuals_each) of.within

pub have_own_elements-requires-clause-room : goal.have_own_elements-requires-clause-room
have_own_elements-requires-clause-room c = rw (c.deref-in-DifferentIndividuals.ensures.value, c.requires.room) c.requires.ready.listed.individuals

pub returns-in-DifferentIndividuals-clause-satisfied : goal.returns-in-DifferentIndividuals-clause-satisfied
returns-in-DifferentIndividuals-clause-satisfied c =
    let o = c.args.self.now.ontology.now in
    let l = listed_of c.args.self.now.listed.now in
    let xs = ind_numbers c.in-DifferentIndividuals.individuals.items in
    let of : AreOperands (length o.names.individuals) xs = rw c.in-DifferentIndividuals.is at c.requires.of in
    let said = different_individuals_said o c.well_formed-2.ensures l c.requires.ready.listed xs of.within in
    let e = rw (c.deref-in-DifferentIndividuals.ensures.value, c.deref-in-DifferentIndividuals-2.ensures.value) at c.have_own_elements.ensures.own in
    rw c.in-DifferentIndividuals.is (λ t. said.0 (e.0 t), λ q. e.1 (said.1 q))

pub joins-requires-in-NegativePropertyAssertion : goal.joins-requires-in-NegativePropertyAssertion
joins-requires-in-NegativePropertyAssertion c =
    let o = c.args.self.now.ontology.now in
    let p = c.in-NegativePropertyAssertion in
    let of : (p.property.0 < length o.names.properties) × (p.source.0 < length o.names.individuals) × (p.target.0 < length o.names.individuals) = rw p.is at c.requires.of in
    record {
      rows = pair_rows_given o c.args.self.now.listed.now c.requires.ready.listed;
      source = rw c.requires.ready.listed.individuals_each of.1;
      target = rw c.requires.ready.listed.individuals_each of.2;
    }

pub returns-in-NegativePropertyAssertion-clause-satisfied : goal.returns-in-NegativePropertyAssertion-clause-satisfied
returns-in-NegativePropertyAssertion-clause-satisfied c =
    let o = c.args.self.now.ontology.now in
    let l = listed_of c.args.self.now.listed.now in
    let p = c.in-NegativePropertyAssertion in
    let of : (p.property.0 < length o.names.properties) × (p.source.0 < length o.names.individuals) × (p.target.0 < length o.names.individuals) = rw p.is at c.requires.of in
    let said = property_assertion_said o c.well_formed-2.ensures l c.requires.ready.listed p.property.0 p.source.0 p.target.0 of.0 of.1 of.2 in
    let joined = c.joins-in-NegativePropertyAssertion in
    let e = joined.ensures in
    rw p.is (
      λ t s. true≢false (sym (e ∙ said.1 s) ∙ not-true joined.result t),
      λ q. not_from_false joined.result (false_from_ne_true joined.result (λ j. q (said.0 (sym e ∙ j)))),
    )
