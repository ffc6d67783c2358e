-- The forms by what gives them: an axiom, an expression that occurs right, one that occurs left.
use Rattle.std.specs.Prelude.{◌≡◌, ℕ, ◌+◌, ◌<◌, ◌⊎◌, List, [], ◌∷◌, length, slice_get, Some}
use Rattle.std.specs.List.{Contains}
use Rattle.axioms.specs.Ontology.{Ontology, Axiom, Node, Class, And, Exists, thing, nothing, SubClass, EquivalentClasses, DisjointClasses, SubProperty, EquivalentProperties, Domain, Transitive, Reflexive, ClassAssertion, PropertyAssertion, SameIndividuals, DifferentIndividuals, NegativePropertyAssertion}
use Rattle.axioms.specs.View.{at_number}
use Rattle.normal_forms.specs.declared.forms.Origin.{Origin}
use Rattle.normal_forms.specs.declared.forms.Origin.TheVariants as origins
use Rattle.normal_forms.specs.Forms.{Form, Whole, Property, N1, N2, N3, N4, N5, N6, N7, N8, N9, N10, N11, N12, first_of, first_steps}
use Rattle.normal_forms.specs.Occurrences.{Occurs, AtRight, AtLeft}

-- the n-th of a circle and the next, or its last and its first
abbrev pub CircleGives : (ℕ → ℕ → Form) → List ℕ → ℕ → Form → Type 0
CircleGives make cs n g = (c : ℕ) × (d : ℕ) × (slice_get cs n ≡ Some c) × ((slice_get cs (n + 1) ≡ Some d) ⊎ ((n + 1 ≡ length cs) × (slice_get cs 0 ≡ Some d))) × (g ≡ make c d)

abbrev pub subsumed : ℕ → ℕ → Form
subsumed c d = N1 (Whole c) (Whole d)

abbrev pub disjoint : ℕ → ℕ → Form
disjoint c d = N2 (Whole c) (Whole d) (Whole nothing)

-- the m-th and the n-th of a list, where that is a later one
abbrev pub PairGives : (ℕ → ℕ → Form) → List ℕ → ℕ → ℕ → Form → Type 0
PairGives make cs m n g = (c : ℕ) × (d : ℕ) × (m < n) × (slice_get cs m ≡ Some c) × (slice_get cs n ≡ Some d) × (g ≡ make c d)

-- the n-th of a list and the next
abbrev pub NextGives : (ℕ → ℕ → Form) → List ℕ → ℕ → Form → Type 0
NextGives make xs n g = (a : ℕ) × (b : ℕ) × (slice_get xs n ≡ Some a) × (slice_get xs (n + 1) ≡ Some b) × (g ≡ make a b)

-- the n-th operand after those before it
abbrev pub AndGives : List ℕ → ℕ → ℕ → Form → Type 0
AndGives ds e n g = (d : ℕ) × (0 < n) × (slice_get ds n ≡ Some d) × (g ≡ N2 (first_of ds e n) (Whole d) (first_of ds e (n + 1)))

-- the n-th property of a chain after those before it
abbrev pub ChainGives : List ℕ → ℕ → ℕ → Form → Type 0
ChainGives rs s n g = (r : ℕ) × (0 < n) × (slice_get rs n ≡ Some r) × (g ≡ N6 (first_steps rs (Property s) n) (Property r) (first_steps rs (Property s) (n + 1)))

-- what an axiom gives
abbrev pub AxiomGives : Axiom → Form → Type 0
AxiomGives (SubClass c d) g = g ≡ N1 (Whole c) (Whole d)
AxiomGives (EquivalentClasses cs) g = (n : ℕ) × CircleGives subsumed cs n g
AxiomGives (DisjointClasses cs) g = (m : ℕ) × ((n : ℕ) × PairGives disjoint cs m n g)
AxiomGives (SubProperty rs s) g = ((r : ℕ) × (rs ≡ r ∷ []) × (g ≡ N5 r s)) ⊎ ((n : ℕ) × ChainGives rs s n g)
AxiomGives (EquivalentProperties rs) g = (n : ℕ) × CircleGives N5 rs n g
AxiomGives (Domain r c) g = g ≡ N4 r (Whole thing) (Whole c)
AxiomGives (Transitive r) g = g ≡ N6 (Property r) (Property r) (Property r)
AxiomGives (Reflexive r) g = g ≡ N7 r
AxiomGives (ClassAssertion c a) g = g ≡ N8 a (Whole c)
AxiomGives (PropertyAssertion r a b) g = g ≡ N9 a r b
AxiomGives (SameIndividuals xs) g = (n : ℕ) × NextGives N10 xs n g
AxiomGives (DifferentIndividuals xs) g = (m : ℕ) × ((n : ℕ) × PairGives N11 xs m n g)
AxiomGives (NegativePropertyAssertion r a b) g = g ≡ N12 a r b

-- what an expression gives that occurs right
abbrev pub RightGives : ℕ → Node → Form → Type 0
RightGives e (Class c) g = ⊥
RightGives e (And ds) g = (d : ℕ) × Contains ds d × (g ≡ N1 (Whole e) (Whole d))
RightGives e (Exists r c) g = g ≡ N3 (Whole e) r c

-- what an expression gives that occurs left
abbrev pub LeftGives : ℕ → Node → Form → Type 0
LeftGives e (Class c) g = ⊥
LeftGives e (And ds) g = (n : ℕ) × AndGives ds e n g
LeftGives e (Exists r c) g = g ≡ N4 r (Whole c) (Whole e)

-- the forms with what gives each
abbrev pub GivenBy : Ontology → List ℕ → Origin → Form → Type 0
GivenBy o asked (origins.Axiom n) g = (a : Axiom) × (at_number o.axioms n ≡ Some a) × AxiomGives a g
GivenBy o asked (origins.Expr e) g = (node : Node) × (slice_get o.nodes e.0 ≡ Some node) × ((Occurs AtRight o asked e.0 × RightGives e.0 node g) ⊎ (Occurs AtLeft o asked e.0 × LeftGives e.0 node g))
