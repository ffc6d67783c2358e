-- What holds of every ontology that is kept.
use Rattle.std.specs.Prelude.{◌≡◌, ℕ, ◌<◌, ◌≤◌, List, length, slice_get, Some}
use Rattle.std.specs.List.{All}
use Rattle.axioms.specs.Expression.{owl_thing, owl_nothing}
use Rattle.axioms.specs.Ontology.{Ontology, Axiom, Node, Class, And, Exists, IsClassAt, thing, nothing, SubClass, EquivalentClasses, DisjointClasses, SubProperty, EquivalentProperties, Domain, Transitive, Reflexive, ClassAssertion, PropertyAssertion, SameIndividuals, DifferentIndividuals, NegativePropertyAssertion}

-- no two places have the same
abbrev pub AreDistinct : {A : Type 0} → List A → Type 0
AreDistinct {A} xs = (m n : ℕ) (x : A) → slice_get xs m ≡ Some x → slice_get xs n ≡ Some x → m ≡ n

-- two or more numbers below a bound, no two of them equal
pub record AreOperands (bound : ℕ) (xs : List ℕ) : Type 0 where
  pub many : 2 ≤ length xs
  pub distinct : AreDistinct xs
  pub within : All (λ x. x < bound) xs

-- a node whose parts come before it
abbrev pub IsNodeOf : Ontology → ℕ → Node → Type 0
IsNodeOf o e (Class c) = c < length o.names.classes
IsNodeOf o e (And ds) = AreOperands e ds
IsNodeOf o e (Exists r c) = (r < length o.names.properties) × (c < e)

-- an axiom over numbers that are there
abbrev pub IsAxiomOf : Ontology → Axiom → Type 0
IsAxiomOf o (SubClass c d) = (c < length o.nodes) × (d < length o.nodes)
IsAxiomOf o (EquivalentClasses cs) = AreOperands (length o.nodes) cs
IsAxiomOf o (DisjointClasses cs) = AreOperands (length o.nodes) cs
IsAxiomOf o (SubProperty chain s) = (1 ≤ length chain) × All (λ r. r < length o.names.properties) chain × (s < length o.names.properties)
IsAxiomOf o (EquivalentProperties rs) = AreOperands (length o.names.properties) rs
IsAxiomOf o (Domain r c) = (r < length o.names.properties) × (c < length o.nodes)
IsAxiomOf o (Transitive r) = r < length o.names.properties
IsAxiomOf o (Reflexive r) = r < length o.names.properties
IsAxiomOf o (ClassAssertion c a) = (c < length o.nodes) × (a < length o.names.individuals)
IsAxiomOf o (PropertyAssertion r a b) = (r < length o.names.properties) × (a < length o.names.individuals) × (b < length o.names.individuals)
IsAxiomOf o (SameIndividuals xs) = AreOperands (length o.names.individuals) xs
IsAxiomOf o (DifferentIndividuals xs) = AreOperands (length o.names.individuals) xs
IsAxiomOf o (NegativePropertyAssertion r a b) = (r < length o.names.properties) × (a < length o.names.individuals) × (b < length o.names.individuals)

pub record IsOntology (o : Ontology) : Type 0 where
  -- owl:Thing and owl:Nothing come first, as classes and as expressions
  pub thing_name : slice_get o.names.classes 0 ≡ Some owl_thing
  pub nothing_name : slice_get o.names.classes 1 ≡ Some owl_nothing
  pub thing_node : IsClassAt o 0 thing
  pub nothing_node : IsClassAt o 1 nothing
  -- each class is an expression, and nothing stands twice
  pub class_nodes : (c : ℕ) → c < length o.names.classes → (e : ℕ) × IsClassAt o c e
  pub distinct_classes : AreDistinct o.names.classes
  pub distinct_properties : AreDistinct o.names.properties
  pub distinct_individuals : AreDistinct o.names.individuals
  pub distinct_nodes : AreDistinct o.nodes
  -- numbers name what is there
  pub nodes : (e : ℕ) (node : Node) → slice_get o.nodes e ≡ Some node → IsNodeOf o e node
  pub axioms : All (IsAxiomOf o) o.axioms
