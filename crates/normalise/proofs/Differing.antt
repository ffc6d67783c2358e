-- In an ontology no operand stands twice.
use Rattle.std.proofs.Common.{◌≡◌, ℕ, List, slice_get, Some, subst}
use Rattle.std.proofs.lemmas.List.Elements.{All-contains}
use Rattle.lemmas.proofs.Members.{Contains-from_slice_get}
use Rattle.axioms.specs.Ontology.{Ontology, Axiom, Node, Class, And, Exists, SubClass, EquivalentClasses, DisjointClasses, SubProperty, EquivalentProperties, Domain, Transitive, Reflexive, ClassAssertion, PropertyAssertion, SameIndividuals, DifferentIndividuals, NegativePropertyAssertion}
use Rattle.axioms.specs.WellFormedness.{IsAxiomOf, IsNodeOf, IsOntology}
use Rattle.normalise.specs.Steps.{OperandsDiffer, PartsDiffer}

pub parts_differ : (o : Ontology) (e : ℕ) (node : Node) → IsNodeOf o e node → PartsDiffer node
parts_differ o e (Class c) h = tt
parts_differ o e (And ds) h = h.distinct
parts_differ o e (Exists r c) h = tt

operands_differ : (o : Ontology) (a : Axiom) → IsAxiomOf o a → OperandsDiffer a
operands_differ o (SubClass c d) h = tt
operands_differ o (EquivalentClasses cs) h = h.distinct
operands_differ o (DisjointClasses cs) h = h.distinct
operands_differ o (SubProperty rs s) h = tt
operands_differ o (EquivalentProperties rs) h = h.distinct
operands_differ o (Domain r c) h = tt
operands_differ o (Transitive r) h = tt
operands_differ o (Reflexive r) h = tt
operands_differ o (ClassAssertion c a) h = tt
operands_differ o (PropertyAssertion r a b) h = tt
operands_differ o (SameIndividuals xs) h = h.distinct
operands_differ o (DifferentIndividuals xs) h = h.distinct
operands_differ o (NegativePropertyAssertion r a b) h = tt

pub all_differ : (o : Ontology) → IsOntology o → (axioms : List Axiom) → axioms ≡ o.axioms → (n : ℕ) (a : Axiom) → slice_get axioms n ≡ Some a → OperandsDiffer a
all_differ o ok axioms e n a g =
    operands_differ o a (All-contains (IsAxiomOf o) o.axioms a ok.axioms (Contains-from_slice_get o.axioms n a (subst (λ xs. slice_get xs n ≡ Some a) e g)))
