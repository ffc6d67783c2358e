use Rattle.std.proofs.Common.{◌<◌, ℕ, [], ◌∷◌, length, sym, subst, ◌≡◌}
use Rattle.axioms.specs.Ontology.{Ontology, DisjointClasses, SameIndividuals, DifferentIndividuals, SubClass, SubProperty}
use Rattle.axioms.specs.View.{axiom_of}
use Rattle.axioms.specs.WellFormedness.{IsAxiomOf}
use Rattle.axioms.specs.declared.ids.ExprId.{ExprId}
use Rattle.axioms.specs.declared.ids.IndId.{IndId}
use Rattle.axioms.specs.declared.ids.PropId.{PropId}
use Rattle.axioms.specs.declared.terms.Axiom.{Axiom}
use Rattle.entailment.proofs.Listing.{lent_first, lent_pair, lent_second, lent_two}
use Rattle.entailment.specs.Parts.{member_count, parts_at}
use Rattle.entailment.specs.Testers.{IsTold}
use Rattle.entailment.proofs.tester.Tester.pair_follows.Goals as goal

-- numbers, and what stands where no number does
abbrev expression : ExprId → ℕ
expression x = x.0

abbrev no_expression : ExprId
no_expression = record { 0 = 0 }

abbrev property : PropId → ℕ
property x = x.0

abbrev no_property : PropId
no_property = record { 0 = 0 }

abbrev individual : IndId → ℕ
individual x = x.0

abbrev no_individual : IndId
no_individual = record { 0 = 0 }

-- what is required of an axiom, where it is known to be another
known : (o : Ontology) (n : ℕ) {a b : Axiom} → a ≡ b → IsAxiomOf o (axiom_of a) → n < member_count (axiom_of a) → IsAxiomOf o (axiom_of b) × (n < member_count (axiom_of b))
known o n e there within = (subst (λ (a : Axiom). IsAxiomOf o (axiom_of a)) e there, subst (λ (a : Axiom). n < member_count (axiom_of a)) e within)

pub classes_are_same-requires-clause-first : goal.classes_are_same-requires-clause-first
classes_are_same-requires-clause-first c =
    let (are, within) = known c.args.self.now.about.now c.args.n c.in-EquivalentClasses.is c.requires.there c.requires.within in
    lent_first expression c.as_slice-classes.result.now c.in-EquivalentClasses.classes.items c.as_slice-classes.ensures.value no_expression c.args.m c.args.n c.requires.order within (length c.args.self.now.about.now.nodes) are

pub classes_are_same-requires-clause-second : goal.classes_are_same-requires-clause-second
classes_are_same-requires-clause-second c =
    let (are, within) = known c.args.self.now.about.now c.args.n c.in-EquivalentClasses.is c.requires.there c.requires.within in
    lent_second expression c.as_slice-classes.result.now c.in-EquivalentClasses.classes.items c.as_slice-classes.ensures.value no_expression c.args.m c.args.n c.requires.order within (length c.args.self.now.about.now.nodes) are

pub claim_follows-requires-clause-claim : goal.claim_follows-requires-clause-claim
claim_follows-requires-clause-claim c =
    let (are, within) = known c.args.self.now.about.now c.args.n c.in-DisjointClasses.is c.requires.there c.requires.within in (
      lent_first expression c.as_slice-classes-in-DisjointClasses.result.now c.in-DisjointClasses.classes.items c.as_slice-classes-in-DisjointClasses.ensures.value no_expression c.args.m c.args.n c.requires.order within (length c.args.self.now.about.now.nodes) are,
      lent_second expression c.as_slice-classes-in-DisjointClasses.result.now c.in-DisjointClasses.classes.items c.as_slice-classes-in-DisjointClasses.ensures.value no_expression c.args.m c.args.n c.requires.order within (length c.args.self.now.about.now.nodes) are,
    )

pub properties_are_same-requires-clause-first : goal.properties_are_same-requires-clause-first
properties_are_same-requires-clause-first c =
    let (are, within) = known c.args.self.now.about.now c.args.n c.in-EquivalentProperties.is c.requires.there c.requires.within in
    lent_first property c.as_slice-properties.result.now c.in-EquivalentProperties.properties.items c.as_slice-properties.ensures.value no_property c.args.m c.args.n c.requires.order within (length c.args.self.now.about.now.names.properties) are

pub properties_are_same-requires-clause-second : goal.properties_are_same-requires-clause-second
properties_are_same-requires-clause-second c =
    let (are, within) = known c.args.self.now.about.now c.args.n c.in-EquivalentProperties.is c.requires.there c.requires.within in
    lent_second property c.as_slice-properties.result.now c.in-EquivalentProperties.properties.items c.as_slice-properties.ensures.value no_property c.args.m c.args.n c.requires.order within (length c.args.self.now.about.now.names.properties) are

pub claim_follows-requires-in-SameIndividuals-clause-claim : goal.claim_follows-requires-in-SameIndividuals-clause-claim
claim_follows-requires-in-SameIndividuals-clause-claim c =
    let (are, within) = known c.args.self.now.about.now c.args.n c.in-SameIndividuals.is c.requires.there c.requires.within in
    lent_two individual c.as_slice-individuals.result.now c.in-SameIndividuals.individuals.items c.as_slice-individuals.ensures.value no_individual c.args.m c.args.n c.requires.order within (length c.args.self.now.about.now.names.individuals) are

pub claim_follows-requires-in-DifferentIndividuals-clause-claim : goal.claim_follows-requires-in-DifferentIndividuals-clause-claim
claim_follows-requires-in-DifferentIndividuals-clause-claim c =
    let (are, within) = known c.args.self.now.about.now c.args.n c.in-DifferentIndividuals.is c.requires.there c.requires.within in
    lent_two individual c.as_slice-individuals-in-DifferentIndividuals.result.now c.in-DifferentIndividuals.individuals.items c.as_slice-individuals-in-DifferentIndividuals.ensures.value no_individual c.args.m c.args.n c.requires.order within (length c.args.self.now.about.now.names.individuals) are

pub returns-in-EquivalentClasses : goal.returns-in-EquivalentClasses
returns-in-EquivalentClasses c =
    let (are, within) = known c.args.self.now.about.now c.args.n c.in-EquivalentClasses.is c.requires.there c.requires.within in
    subst (λ (a : Axiom). IsTold c.args.self.now.about.now (parts_at (axiom_of a) c.args.m c.args.n) c.args.self.now.max_facts c.classes_are_same.result) (sym c.in-EquivalentClasses.is)
    ((lent_pair expression c.as_slice-classes.result.now c.in-EquivalentClasses.classes.items c.as_slice-classes.ensures.value no_expression c.args.m c.args.n c.requires.order within (λ a b. IsTold c.args.self.now.about.now (SubClass a b ∷ SubClass b a ∷ []) c.args.self.now.max_facts c.classes_are_same.result)).0 c.classes_are_same.ensures)

pub returns-in-DisjointClasses : goal.returns-in-DisjointClasses
returns-in-DisjointClasses c =
    let (are, within) = known c.args.self.now.about.now c.args.n c.in-DisjointClasses.is c.requires.there c.requires.within in
    subst (λ (a : Axiom). IsTold c.args.self.now.about.now (parts_at (axiom_of a) c.args.m c.args.n) c.args.self.now.max_facts c.claim_follows.result) (sym c.in-DisjointClasses.is)
    ((lent_pair expression c.as_slice-classes-in-DisjointClasses.result.now c.in-DisjointClasses.classes.items c.as_slice-classes-in-DisjointClasses.ensures.value no_expression c.args.m c.args.n c.requires.order within (λ a b. IsTold c.args.self.now.about.now (DisjointClasses (a ∷ b ∷ []) ∷ []) c.args.self.now.max_facts c.claim_follows.result)).0 c.claim_follows.ensures)

pub returns-in-EquivalentProperties : goal.returns-in-EquivalentProperties
returns-in-EquivalentProperties c =
    let (are, within) = known c.args.self.now.about.now c.args.n c.in-EquivalentProperties.is c.requires.there c.requires.within in
    subst (λ (a : Axiom). IsTold c.args.self.now.about.now (parts_at (axiom_of a) c.args.m c.args.n) c.args.self.now.max_facts c.properties_are_same.result) (sym c.in-EquivalentProperties.is)
    ((lent_pair property c.as_slice-properties.result.now c.in-EquivalentProperties.properties.items c.as_slice-properties.ensures.value no_property c.args.m c.args.n c.requires.order within (λ a b. IsTold c.args.self.now.about.now (SubProperty (a ∷ []) b ∷ SubProperty (b ∷ []) a ∷ []) c.args.self.now.max_facts c.properties_are_same.result)).0 c.properties_are_same.ensures)

pub returns-in-SameIndividuals : goal.returns-in-SameIndividuals
returns-in-SameIndividuals c =
    let (are, within) = known c.args.self.now.about.now c.args.n c.in-SameIndividuals.is c.requires.there c.requires.within in
    subst (λ (a : Axiom). IsTold c.args.self.now.about.now (parts_at (axiom_of a) c.args.m c.args.n) c.args.self.now.max_facts c.claim_follows-in-SameIndividuals.result) (sym c.in-SameIndividuals.is)
    ((lent_pair individual c.as_slice-individuals.result.now c.in-SameIndividuals.individuals.items c.as_slice-individuals.ensures.value no_individual c.args.m c.args.n c.requires.order within (λ a b. IsTold c.args.self.now.about.now (SameIndividuals (a ∷ b ∷ []) ∷ []) c.args.self.now.max_facts c.claim_follows-in-SameIndividuals.result)).0 c.claim_follows-in-SameIndividuals.ensures)

pub returns-in-DifferentIndividuals : goal.returns-in-DifferentIndividuals
returns-in-DifferentIndividuals c =
    let (are, within) = known c.args.self.now.about.now c.args.n c.in-DifferentIndividuals.is c.requires.there c.requires.within in
    subst (λ (a : Axiom). IsTold c.args.self.now.about.now (parts_at (axiom_of a) c.args.m c.args.n) c.args.self.now.max_facts c.claim_follows-in-DifferentIndividuals.result) (sym c.in-DifferentIndividuals.is)
    ((lent_pair individual c.as_slice-individuals-in-DifferentIndividuals.result.now c.in-DifferentIndividuals.individuals.items c.as_slice-individuals-in-DifferentIndividuals.ensures.value no_individual c.args.m c.args.n c.requires.order within (λ a b. IsTold c.args.self.now.about.now (DifferentIndividuals (a ∷ b ∷ []) ∷ []) c.args.self.now.max_facts c.claim_follows-in-DifferentIndividuals.result)).0 c.claim_follows-in-DifferentIndividuals.ensures)
