use Rattle.std.proofs.Common.{ℕ, refl, sym, subst}
use Rattle.axioms.specs.View.{axiom_of, expr_numbers, ind_numbers, prop_numbers}
use Rattle.normal_forms.specs.declared.forms.Origin.TheVariants as origins
use Rattle.normal_forms.specs.Forms.{N5}
use Rattle.normal_forms.specs.Origins.{CircleGives, NextGives, PairGives, disjoint, subsumed}
use Rattle.normalise.specs.View.{Adds, From}
use Rattle.normal_forms.specs.Forms.{Whole, Property, N1, N4, N6, N7, N8, N9, N10, N11, N12}
use Rattle.normal_forms.specs.Origins.{AxiomGives}
use Rattle.axioms.specs.Ontology.{thing}
use Rattle.normalise.proofs.FreshNames.{NamesNone, names_none}
use Rattle.normalise.proofs.made.Made.state.Goals as goal

pub returns-in_ok-add-in-SubClass-clause-forms : goal.returns-in_ok-add-in-SubClass-clause-forms
returns-in_ok-add-in-SubClass-clause-forms c =
    subst (λ a. Adds c.args.self.now c.add.new.self (From (origins.Axiom c.args.number) (AxiomGives (axiom_of a)))) (sym c.in-SubClass.is)
    (c.in_ok-add-in-SubClass.ensures.forms (N1 (Whole c.in-SubClass.sub.0) (Whole c.in-SubClass.sup.0)) (Whole c.in-SubClass.sub.0, Whole c.in-SubClass.sup.0, refl, refl, refl))

pub returns-in_ok-circle-in-EquivalentClasses-clause-forms : goal.returns-in_ok-circle-in-EquivalentClasses-clause-forms
returns-in_ok-circle-in-EquivalentClasses-clause-forms c =
    subst (λ a. Adds c.args.self.now c.circle.new.self (From (origins.Axiom c.args.number) (AxiomGives (axiom_of a)))) (sym c.in-EquivalentClasses.is)
    (subst (λ xs. Adds c.args.self.now c.circle.new.self (From (origins.Axiom c.args.number) (λ g. (n : ℕ) × CircleGives subsumed (expr_numbers xs) n g))) c.deref.ensures.value c.in_ok-circle-in-EquivalentClasses.ensures)

pub returns-in_ok-disjoint-in-DisjointClasses-clause-forms : goal.returns-in_ok-disjoint-in-DisjointClasses-clause-forms
returns-in_ok-disjoint-in-DisjointClasses-clause-forms c =
    subst (λ a. Adds c.args.self.now c.disjoint.new.self (From (origins.Axiom c.args.number) (AxiomGives (axiom_of a)))) (sym c.in-DisjointClasses.is)
    (subst (λ xs. Adds c.args.self.now c.disjoint.new.self (From (origins.Axiom c.args.number) (λ g. (m : ℕ) × ((n : ℕ) × PairGives disjoint (expr_numbers xs) m n g)))) c.deref-in-DisjointClasses.ensures.value c.in_ok-disjoint-in-DisjointClasses.ensures)

pub returns-in_ok-property_circle-in-EquivalentProperties-clause-forms : goal.returns-in_ok-property_circle-in-EquivalentProperties-clause-forms
returns-in_ok-property_circle-in-EquivalentProperties-clause-forms c =
    subst (λ a. Adds c.args.self.now c.property_circle.new.self (From (origins.Axiom c.args.number) (AxiomGives (axiom_of a)))) (sym c.in-EquivalentProperties.is)
    (subst (λ xs. Adds c.args.self.now c.property_circle.new.self (From (origins.Axiom c.args.number) (λ g. (n : ℕ) × CircleGives N5 (prop_numbers xs) n g))) c.deref-in-EquivalentProperties.ensures.value c.in_ok-property_circle-in-EquivalentProperties.ensures)

pub returns-in_ok-add-in-Domain-clause-forms : goal.returns-in_ok-add-in-Domain-clause-forms
returns-in_ok-add-in-Domain-clause-forms c =
    subst (λ a. Adds c.args.self.now c.add-in-Domain.new.self (From (origins.Axiom c.args.number) (AxiomGives (axiom_of a)))) (sym c.in-Domain.is)
    (c.in_ok-add-in-Domain.ensures.forms (N4 c.in-Domain.prop.0 (Whole thing) (Whole c.in-Domain.class.0)) (Whole thing, Whole c.in-Domain.class.0, refl, refl, refl))

pub returns-in_ok-add-in-Transitive-clause-forms : goal.returns-in_ok-add-in-Transitive-clause-forms
returns-in_ok-add-in-Transitive-clause-forms c =
    subst (λ a. Adds c.args.self.now c.add-in-Transitive.new.self (From (origins.Axiom c.args.number) (AxiomGives (axiom_of a)))) (sym c.in-Transitive.is)
    (c.in_ok-add-in-Transitive.ensures.forms (N6 (Property c.in-Transitive.prop.0) (Property c.in-Transitive.prop.0) (Property c.in-Transitive.prop.0)) (Property c.in-Transitive.prop.0, Property c.in-Transitive.prop.0, Property c.in-Transitive.prop.0, refl, refl, refl, refl))

pub returns-in_ok-add-in-Reflexive-clause-forms : goal.returns-in_ok-add-in-Reflexive-clause-forms
returns-in_ok-add-in-Reflexive-clause-forms c =
    subst (λ a. Adds c.args.self.now c.add-in-Reflexive.new.self (From (origins.Axiom c.args.number) (AxiomGives (axiom_of a)))) (sym c.in-Reflexive.is)
    (c.in_ok-add-in-Reflexive.ensures.forms (N7 c.in-Reflexive.prop.0) refl)

pub returns-in_ok-add-in-ClassAssertion-clause-forms : goal.returns-in_ok-add-in-ClassAssertion-clause-forms
returns-in_ok-add-in-ClassAssertion-clause-forms c =
    subst (λ a. Adds c.args.self.now c.add-in-ClassAssertion.new.self (From (origins.Axiom c.args.number) (AxiomGives (axiom_of a)))) (sym c.in-ClassAssertion.is)
    (c.in_ok-add-in-ClassAssertion.ensures.forms (N8 c.in-ClassAssertion.individual.0 (Whole c.in-ClassAssertion.class.0)) (Whole c.in-ClassAssertion.class.0, refl, refl))

pub returns-in_ok-add-in-PropertyAssertion-clause-forms : goal.returns-in_ok-add-in-PropertyAssertion-clause-forms
returns-in_ok-add-in-PropertyAssertion-clause-forms c =
    subst (λ a. Adds c.args.self.now c.add-in-PropertyAssertion.new.self (From (origins.Axiom c.args.number) (AxiomGives (axiom_of a)))) (sym c.in-PropertyAssertion.is)
    (c.in_ok-add-in-PropertyAssertion.ensures.forms (N9 c.in-PropertyAssertion.source.0 c.in-PropertyAssertion.prop.0 c.in-PropertyAssertion.target.0) refl)

pub returns-in_ok-same-in-SameIndividuals-clause-forms : goal.returns-in_ok-same-in-SameIndividuals-clause-forms
returns-in_ok-same-in-SameIndividuals-clause-forms c =
    subst (λ a. Adds c.args.self.now c.same.new.self (From (origins.Axiom c.args.number) (AxiomGives (axiom_of a)))) (sym c.in-SameIndividuals.is)
    (subst (λ xs. Adds c.args.self.now c.same.new.self (From (origins.Axiom c.args.number) (λ g. (n : ℕ) × NextGives N10 (ind_numbers xs) n g))) c.deref-in-SameIndividuals.ensures.value c.in_ok-same-in-SameIndividuals.ensures)

pub returns-in_ok-add_different-in-DifferentIndividuals-clause-forms : goal.returns-in_ok-add_different-in-DifferentIndividuals-clause-forms
returns-in_ok-add_different-in-DifferentIndividuals-clause-forms c =
    subst (λ a. Adds c.args.self.now c.add_different.new.self (From (origins.Axiom c.args.number) (AxiomGives (axiom_of a)))) (sym c.in-DifferentIndividuals.is)
    (subst (λ xs. Adds c.args.self.now c.add_different.new.self (From (origins.Axiom c.args.number) (λ g. (m : ℕ) × ((n : ℕ) × PairGives N11 (ind_numbers xs) m n g)))) c.deref-in-DifferentIndividuals.ensures.value c.in_ok-add_different-in-DifferentIndividuals.ensures)

pub returns-in_ok-add-in-NegativePropertyAssertion-clause-forms : goal.returns-in_ok-add-in-NegativePropertyAssertion-clause-forms
returns-in_ok-add-in-NegativePropertyAssertion-clause-forms c =
    subst (λ a. Adds c.args.self.now c.add-in-NegativePropertyAssertion.new.self (From (origins.Axiom c.args.number) (AxiomGives (axiom_of a)))) (sym c.in-NegativePropertyAssertion.is)
    (c.in_ok-add-in-NegativePropertyAssertion.ensures.forms (N12 c.in-NegativePropertyAssertion.source.0 c.in-NegativePropertyAssertion.prop.0 c.in-NegativePropertyAssertion.target.0) refl)

pub returns-in_ok-add-in-SubClass-clause-names : goal.returns-in_ok-add-in-SubClass-clause-names
returns-in_ok-add-in-SubClass-clause-names c = names_none c.args.self.now c.add.new.self (origins.Axiom c.args.number) (axiom_of c.args.«axiom».now) (subst (λ a. NamesNone (axiom_of a)) (sym c.in-SubClass.is) tt) (returns-in_ok-add-in-SubClass-clause-forms c)

pub returns-in_ok-circle-in-EquivalentClasses-clause-names : goal.returns-in_ok-circle-in-EquivalentClasses-clause-names
returns-in_ok-circle-in-EquivalentClasses-clause-names c = names_none c.args.self.now c.circle.new.self (origins.Axiom c.args.number) (axiom_of c.args.«axiom».now) (subst (λ a. NamesNone (axiom_of a)) (sym c.in-EquivalentClasses.is) tt) (returns-in_ok-circle-in-EquivalentClasses-clause-forms c)

pub returns-in_ok-disjoint-in-DisjointClasses-clause-names : goal.returns-in_ok-disjoint-in-DisjointClasses-clause-names
returns-in_ok-disjoint-in-DisjointClasses-clause-names c = names_none c.args.self.now c.disjoint.new.self (origins.Axiom c.args.number) (axiom_of c.args.«axiom».now) (subst (λ a. NamesNone (axiom_of a)) (sym c.in-DisjointClasses.is) tt) (returns-in_ok-disjoint-in-DisjointClasses-clause-forms c)

pub returns-in_ok-property_circle-in-EquivalentProperties-clause-names : goal.returns-in_ok-property_circle-in-EquivalentProperties-clause-names
returns-in_ok-property_circle-in-EquivalentProperties-clause-names c = names_none c.args.self.now c.property_circle.new.self (origins.Axiom c.args.number) (axiom_of c.args.«axiom».now) (subst (λ a. NamesNone (axiom_of a)) (sym c.in-EquivalentProperties.is) tt) (returns-in_ok-property_circle-in-EquivalentProperties-clause-forms c)

pub returns-in_ok-add-in-Domain-clause-names : goal.returns-in_ok-add-in-Domain-clause-names
returns-in_ok-add-in-Domain-clause-names c = names_none c.args.self.now c.add-in-Domain.new.self (origins.Axiom c.args.number) (axiom_of c.args.«axiom».now) (subst (λ a. NamesNone (axiom_of a)) (sym c.in-Domain.is) tt) (returns-in_ok-add-in-Domain-clause-forms c)

pub returns-in_ok-add-in-Transitive-clause-names : goal.returns-in_ok-add-in-Transitive-clause-names
returns-in_ok-add-in-Transitive-clause-names c = names_none c.args.self.now c.add-in-Transitive.new.self (origins.Axiom c.args.number) (axiom_of c.args.«axiom».now) (subst (λ a. NamesNone (axiom_of a)) (sym c.in-Transitive.is) tt) (returns-in_ok-add-in-Transitive-clause-forms c)

pub returns-in_ok-add-in-Reflexive-clause-names : goal.returns-in_ok-add-in-Reflexive-clause-names
returns-in_ok-add-in-Reflexive-clause-names c = names_none c.args.self.now c.add-in-Reflexive.new.self (origins.Axiom c.args.number) (axiom_of c.args.«axiom».now) (subst (λ a. NamesNone (axiom_of a)) (sym c.in-Reflexive.is) tt) (returns-in_ok-add-in-Reflexive-clause-forms c)

pub returns-in_ok-add-in-ClassAssertion-clause-names : goal.returns-in_ok-add-in-ClassAssertion-clause-names
returns-in_ok-add-in-ClassAssertion-clause-names c = names_none c.args.self.now c.add-in-ClassAssertion.new.self (origins.Axiom c.args.number) (axiom_of c.args.«axiom».now) (subst (λ a. NamesNone (axiom_of a)) (sym c.in-ClassAssertion.is) tt) (returns-in_ok-add-in-ClassAssertion-clause-forms c)

pub returns-in_ok-add-in-PropertyAssertion-clause-names : goal.returns-in_ok-add-in-PropertyAssertion-clause-names
returns-in_ok-add-in-PropertyAssertion-clause-names c = names_none c.args.self.now c.add-in-PropertyAssertion.new.self (origins.Axiom c.args.number) (axiom_of c.args.«axiom».now) (subst (λ a. NamesNone (axiom_of a)) (sym c.in-PropertyAssertion.is) tt) (returns-in_ok-add-in-PropertyAssertion-clause-forms c)

pub returns-in_ok-same-in-SameIndividuals-clause-names : goal.returns-in_ok-same-in-SameIndividuals-clause-names
returns-in_ok-same-in-SameIndividuals-clause-names c = names_none c.args.self.now c.same.new.self (origins.Axiom c.args.number) (axiom_of c.args.«axiom».now) (subst (λ a. NamesNone (axiom_of a)) (sym c.in-SameIndividuals.is) tt) (returns-in_ok-same-in-SameIndividuals-clause-forms c)

pub returns-in_ok-add_different-in-DifferentIndividuals-clause-names : goal.returns-in_ok-add_different-in-DifferentIndividuals-clause-names
returns-in_ok-add_different-in-DifferentIndividuals-clause-names c = names_none c.args.self.now c.add_different.new.self (origins.Axiom c.args.number) (axiom_of c.args.«axiom».now) (subst (λ a. NamesNone (axiom_of a)) (sym c.in-DifferentIndividuals.is) tt) (returns-in_ok-add_different-in-DifferentIndividuals-clause-forms c)

pub returns-in_ok-add-in-NegativePropertyAssertion-clause-names : goal.returns-in_ok-add-in-NegativePropertyAssertion-clause-names
returns-in_ok-add-in-NegativePropertyAssertion-clause-names c = names_none c.args.self.now c.add-in-NegativePropertyAssertion.new.self (origins.Axiom c.args.number) (axiom_of c.args.«axiom».now) (subst (λ a. NamesNone (axiom_of a)) (sym c.in-NegativePropertyAssertion.is) tt) (returns-in_ok-add-in-NegativePropertyAssertion-clause-forms c)
