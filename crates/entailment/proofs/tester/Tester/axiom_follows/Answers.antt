use Rattle.std.proofs.Common.{sym, subst}
use Rattle.axioms.specs.View.{axiom_of}
use Rattle.axioms.specs.declared.terms.Axiom.{Axiom}
use Rattle.entailment.proofs.Listing.{IsAboutList, told_of_list}
use Rattle.entailment.specs.Parts.{parts_of}
use Rattle.entailment.specs.Testers.{IsTold}
use Rattle.entailment.proofs.tester.Tester.axiom_follows.Goals as goal

pub returns-in-EquivalentClasses : goal.returns-in-EquivalentClasses
returns-in-EquivalentClasses c =
    let listed : IsAboutList (axiom_of c.args.stated.now) = subst (λ (a : Axiom). IsAboutList (axiom_of a)) (sym c.in-EquivalentClasses.is) tt in
    told_of_list c.args.self.now.about.now c.args.self.now.max_facts (axiom_of c.args.stated.now) listed c.list_follows.result c.list_follows.ensures

pub returns-in-DisjointClasses : goal.returns-in-DisjointClasses
returns-in-DisjointClasses c =
    let listed : IsAboutList (axiom_of c.args.stated.now) = subst (λ (a : Axiom). IsAboutList (axiom_of a)) (sym c.in-DisjointClasses.is) tt in
    told_of_list c.args.self.now.about.now c.args.self.now.max_facts (axiom_of c.args.stated.now) listed c.list_follows-in-DisjointClasses.result c.list_follows-in-DisjointClasses.ensures

pub returns-in-EquivalentProperties : goal.returns-in-EquivalentProperties
returns-in-EquivalentProperties c =
    let listed : IsAboutList (axiom_of c.args.stated.now) = subst (λ (a : Axiom). IsAboutList (axiom_of a)) (sym c.in-EquivalentProperties.is) tt in
    told_of_list c.args.self.now.about.now c.args.self.now.max_facts (axiom_of c.args.stated.now) listed c.list_follows-in-EquivalentProperties.result c.list_follows-in-EquivalentProperties.ensures

pub returns-in-SameIndividuals : goal.returns-in-SameIndividuals
returns-in-SameIndividuals c =
    let listed : IsAboutList (axiom_of c.args.stated.now) = subst (λ (a : Axiom). IsAboutList (axiom_of a)) (sym c.in-SameIndividuals.is) tt in
    told_of_list c.args.self.now.about.now c.args.self.now.max_facts (axiom_of c.args.stated.now) listed c.list_follows-in-SameIndividuals.result c.list_follows-in-SameIndividuals.ensures

pub returns-in-DifferentIndividuals : goal.returns-in-DifferentIndividuals
returns-in-DifferentIndividuals c =
    let listed : IsAboutList (axiom_of c.args.stated.now) = subst (λ (a : Axiom). IsAboutList (axiom_of a)) (sym c.in-DifferentIndividuals.is) tt in
    told_of_list c.args.self.now.about.now c.args.self.now.max_facts (axiom_of c.args.stated.now) listed c.list_follows-in-DifferentIndividuals.result c.list_follows-in-DifferentIndividuals.ensures

pub returns-in-Transitive : goal.returns-in-Transitive
returns-in-Transitive c =
    subst (λ (a : Axiom). IsTold c.args.self.now.about.now (parts_of (axiom_of a)) c.args.self.now.max_facts c.claim_follows-in-Transitive.result) (sym c.in-Transitive.is) c.claim_follows-in-Transitive.ensures
