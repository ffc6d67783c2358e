-- Where expressions occur: at a place where something lies below them (right), or where they lie below something (left).
use Rattle.std.specs.Prelude.{◌≡◌, ℕ, ◌⊎◌, List, slice_get, Some}
use Rattle.std.specs.List.{Contains}
use Rattle.axioms.specs.Ontology.{Ontology, Axiom, Node, IsPart, SubClass, EquivalentClasses, DisjointClasses, Domain, ClassAssertion}

-- the axiom has the expression at a place where something lies below it
abbrev pub AtRight : Axiom → ℕ → Type 0
AtRight (SubClass c d) e = e ≡ d
AtRight (EquivalentClasses cs) e = Contains cs e
AtRight (Domain r c) e = e ≡ c
AtRight (ClassAssertion c a) e = e ≡ c
AtRight axiom' e = ⊥

-- the axiom has the expression at a place where it lies below something
abbrev pub AtLeft : Axiom → ℕ → Type 0
AtLeft (SubClass c d) e = e ≡ c
AtLeft (EquivalentClasses cs) e = Contains cs e
AtLeft (DisjointClasses cs) e = Contains cs e
AtLeft axiom' e = ⊥

-- one of the axioms has it at such a place
abbrev pub AtSome : (Axiom → ℕ → Type 0) → List Axiom → ℕ → Type 0
AtSome At axioms e = (a : Axiom) × Contains axioms a × At a e

-- an expression with P, a part of one, a part of a part, and so on
pub data Reached (nodes : List Node) (P : ℕ → Type 0) : ℕ → Type 0 where
  itself : {e : ℕ} → P e → Reached nodes P e
  part : {e : ℕ} (d : ℕ) (node : Node) → Reached nodes P d → slice_get nodes d ≡ Some node → IsPart node e → Reached nodes P e

-- what occurs on a side: what an axiom has there or what is asked about, and the parts of these
abbrev pub Occurs : (Axiom → ℕ → Type 0) → Ontology → List ℕ → ℕ → Type 0
Occurs At o asked e = Reached o.nodes (λ d. AtSome At o.axioms d ⊎ Contains asked d) e

-- right occurrences, also of an expression that is asked about
pub data OccursRight (o : Ontology) (asked : List ℕ) : ℕ → Type 0 where
  by_axiom : {e : ℕ} (a : Axiom) → Contains o.axioms a → AtRight a e → OccursRight o asked e
  by_question : {e : ℕ} → Contains asked e → OccursRight o asked e
  by_part : {e : ℕ} (d : ℕ) (node : Node) → OccursRight o asked d → slice_get o.nodes d ≡ Some node → IsPart node e → OccursRight o asked e

-- left occurrences
pub data OccursLeft (o : Ontology) (asked : List ℕ) : ℕ → Type 0 where
  by_axiom : {e : ℕ} (a : Axiom) → Contains o.axioms a → AtLeft a e → OccursLeft o asked e
  by_question : {e : ℕ} → Contains asked e → OccursLeft o asked e
  by_part : {e : ℕ} (d : ℕ) (node : Node) → OccursLeft o asked d → slice_get o.nodes d ≡ Some node → IsPart node e → OccursLeft o asked e
