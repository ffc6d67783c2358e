-- Normal forms: what each axiom gives, over expressions and over prefixes of intersections and chains.
use Rattle.std.specs.Prelude.{◌≡◌, ℕ, ◌+◌, ◌<◌, ◌⊎◌, List, [], ◌∷◌, length, slice_get, slice_index, Some, take, if◌then◌else◌, ◌==◌}
use Rattle.std.specs.List.{Contains}
use Rattle.axioms.specs.Ontology.{Ontology, And, Exists, thing, nothing, SubClass, EquivalentClasses, DisjointClasses, SubProperty, EquivalentProperties, Domain, Transitive, Reflexive, ClassAssertion, PropertyAssertion, SameIndividuals, DifferentIndividuals, NegativePropertyAssertion}
use Rattle.normal_forms.specs.Occurrences.{OccursRight, OccursLeft}

-- a class of a normal form: an expression, or a prefix of an intersection, of two or more operands
pub data Class2 : Type 0 where
  Whole : (expression : ℕ) → Class2
  Prefix : (operands : List ℕ) → Class2

-- likewise a property, or a prefix of a chain
pub data Property2 : Type 0 where
  Property : (property : ℕ) → Property2
  Steps : (properties : List ℕ) → Property2

-- the twelve forms: inclusions of classes (N1 to N4), of properties (N5, N6), reflexivity (N7), assertions (N8, N9), individuals that
-- are one (N10) and that are two (N11), and pairs that are denied (N12)
pub data Form : Type 0 where
  N1 : (a b : Class2) → Form
  N2 : (a b c : Class2) → Form
  N3 : (a : Class2) (r b : ℕ) → Form
  N4 : (r : ℕ) (a b : Class2) → Form
  N5 : (r s : ℕ) → Form
  N6 : (r s t : Property2) → Form
  N7 : (r : ℕ) → Form
  N8 : (individual : ℕ) (a : Class2) → Form
  N9 : (source property target : ℕ) → Form
  N10 : (first second : ℕ) → Form
  N11 : (first second : ℕ) → Form
  N12 : (source property target : ℕ) → Form

-- the first n operands of a list: an operand alone, a prefix, or the whole intersection e
abbrev pub first_of : List ℕ → ℕ → ℕ → Class2
first_of ds e n = if n == length ds then Whole e else (if n == 1 then Whole (slice_index ds 0) else Prefix (take n ds))

-- the first n properties of a chain, likewise, where s stands for the whole
abbrev pub first_steps : List ℕ → Property2 → ℕ → Property2
first_steps rs s n = if n == length rs then s else (if n == 1 then Property (slice_index rs 0) else Steps (take n rs))

-- neighbours in a list, and its last with its first
abbrev pub IsNextInCircle : List ℕ → ℕ → ℕ → Type 0
IsNextInCircle cs c d = (n : ℕ) × (slice_get cs n ≡ Some c) × ((slice_get cs (n + 1) ≡ Some d) ⊎ ((n + 1 ≡ length cs) × (slice_get cs 0 ≡ Some d)))

-- neighbours in a list
abbrev pub IsNext : List ℕ → ℕ → ℕ → Type 0
IsNext xs a b = (n : ℕ) × (slice_get xs n ≡ Some a) × (slice_get xs (n + 1) ≡ Some b)

-- two members of a list, the first at an earlier place
abbrev pub AtOrderedPlaces : {X : Type 0} → List X → X → X → Type 0
AtOrderedPlaces cs c d = (m : ℕ) × (n : ℕ) × (m < n) × (slice_get cs m ≡ Some c) × (slice_get cs n ≡ Some d)

-- the normal forms of the axioms, with those of the expressions that are asked about
pub data IsForm (o : Ontology) (asked : List ℕ) : Form → Type 0 where
  sub_class : (c d : ℕ) → Contains o.axioms (SubClass c d) → IsForm o asked (N1 (Whole c) (Whole d))
  equivalent : (cs : List ℕ) (c d : ℕ) → Contains o.axioms (EquivalentClasses cs) → IsNextInCircle cs c d → IsForm o asked (N1 (Whole c) (Whole d))
  right_and : (e : ℕ) (ds : List ℕ) (d : ℕ) → OccursRight o asked e → slice_get o.nodes e ≡ Some (And ds) → Contains ds d → IsForm o asked (N1 (Whole e) (Whole d))
  left_and : (e : ℕ) (ds : List ℕ) (n d : ℕ) → OccursLeft o asked e → slice_get o.nodes e ≡ Some (And ds) → 0 < n → slice_get ds n ≡ Some d → IsForm o asked (N2 (first_of ds e n) (Whole d) (first_of ds e (n + 1)))
  disjoint : (cs : List ℕ) (c d : ℕ) → Contains o.axioms (DisjointClasses cs) → AtOrderedPlaces cs c d → IsForm o asked (N2 (Whole c) (Whole d) (Whole nothing))
  right_some : (e r c : ℕ) → OccursRight o asked e → slice_get o.nodes e ≡ Some (Exists r c) → IsForm o asked (N3 (Whole e) r c)
  left_some : (e r c : ℕ) → OccursLeft o asked e → slice_get o.nodes e ≡ Some (Exists r c) → IsForm o asked (N4 r (Whole c) (Whole e))
  domain : (r c : ℕ) → Contains o.axioms (Domain r c) → IsForm o asked (N4 r (Whole thing) (Whole c))
  sub_property : (r s : ℕ) → Contains o.axioms (SubProperty (r ∷ []) s) → IsForm o asked (N5 r s)
  same_property : (rs : List ℕ) (r s : ℕ) → Contains o.axioms (EquivalentProperties rs) → IsNextInCircle rs r s → IsForm o asked (N5 r s)
  chain : (rs : List ℕ) (s n r : ℕ) → Contains o.axioms (SubProperty rs s) → 0 < n → slice_get rs n ≡ Some r → IsForm o asked (N6 (first_steps rs (Property s) n) (Property r) (first_steps rs (Property s) (n + 1)))
  transitive : (r : ℕ) → Contains o.axioms (Transitive r) → IsForm o asked (N6 (Property r) (Property r) (Property r))
  reflexive : (r : ℕ) → Contains o.axioms (Reflexive r) → IsForm o asked (N7 r)
  class_assertion : (c a : ℕ) → Contains o.axioms (ClassAssertion c a) → IsForm o asked (N8 a (Whole c))
  property_assertion : (r a b : ℕ) → Contains o.axioms (PropertyAssertion r a b) → IsForm o asked (N9 a r b)
  same_individuals : (xs : List ℕ) (a b : ℕ) → Contains o.axioms (SameIndividuals xs) → IsNext xs a b → IsForm o asked (N10 a b)
  different_individuals : (xs : List ℕ) (a b : ℕ) → Contains o.axioms (DifferentIndividuals xs) → AtOrderedPlaces xs a b → IsForm o asked (N11 a b)
  negative_assertion : (r a b : ℕ) → Contains o.axioms (NegativePropertyAssertion r a b) → IsForm o asked (N12 a r b)
