-- Derivation lines: what each says in an interpretation, and the rules by which one follows from others.
use Rattle.std.specs.Prelude.{◌≡◌, ℕ, ◌<◌, ◌⊎◌, List, [], ◌∷◌, map, length, slice_get, Some, None}
use Rattle.std.specs.declared.option.Option.{Option}
use Rattle.std.specs.List.{Contains}
use Rattle.axioms.specs.Ontology.{Ontology, Axiom, And, Exists, SubClass, EquivalentClasses, DisjointClasses, SubProperty, EquivalentProperties, Domain, Transitive, Reflexive, ClassAssertion, PropertyAssertion, SameIndividuals, DifferentIndividuals, NegativePropertyAssertion, AtTwoPlaces, thing, nothing, expression, property_name, individual_name}
use Rattle.interpretation_spec.specs.Interpretation.{Interpretation, IsIn, HasPair}
use Rattle.certificate.specs.Certificate.{Subject, Expression, Individual, Conclusion, Sub, Edge, Same}
use Rattle.certificate.specs.declared.line.Rule.{Rule}
use Rattle.certificate.specs.declared.line.Rule.TheVariants.{K1, K2, K3, K4, K5, K6, K7, K8, K9, K10, K11, K12, K13, K14, K15, K16, K17, K18, K19, K20}

-- the set of a subject: the extension of an expression, or the one element of an individual
abbrev pub IsOf : Ontology → Interpretation → Subject → ℕ → Type 0
IsOf o i (Expression c) x = IsIn i (expression o c) x
IsOf o i (Individual a) x = x ≡ i.individual (individual_name o a)

-- what a conclusion says in an interpretation
abbrev pub IsTrueIn : Ontology → Interpretation → Conclusion → Type 0
IsTrueIn o i (Sub s c) = (x : ℕ) → x < i.size → IsOf o i s x → IsIn i (expression o c) x
IsTrueIn o i (Edge s r t) = (x : ℕ) → x < i.size → IsOf o i s x → (y : ℕ) × (y < i.size) × HasPair i (property_name o r) x y × IsOf o i t y
IsTrueIn o i (Same a b) = i.individual (individual_name o a) ≡ i.individual (individual_name o b)

-- the edges go from one subject to another along the properties, in their order
abbrev pub IsWalk : Subject → List ℕ → Subject → List Conclusion → Type 0
IsWalk x [] y [] = x ≡ y
IsWalk x [] y (premise ∷ premises) = ⊥
IsWalk x (r ∷ rs) y [] = ⊥
IsWalk x (r ∷ rs) y (premise ∷ premises) = (z : Subject) × (premise ≡ Edge x r z) × IsWalk z rs y premises

-- the edge with the individual a in the place of b, at its source or at its target
abbrev pub IsMovedEdge : ℕ → ℕ → Conclusion → Conclusion → Type 0
IsMovedEdge a b (Edge x r y) (Edge z s w) = (r ≡ s) × (((x ≡ Individual b) × (z ≡ Individual a) × (y ≡ w)) ⊎ ((y ≡ Individual b) × (w ≡ Individual a) × (x ≡ z)))
IsMovedEdge a b _ _ = ⊥

-- the conclusion follows by the rule from the premises, in their order, and the axiom, if there is one
abbrev pub Follows : Ontology → Rule → List Conclusion → Option Axiom → Conclusion → Type 0
Follows o K1 [] None (Sub x c) = x ≡ Expression c
Follows o K2 [] None (Sub x c) = c ≡ thing
Follows o K3 (Sub x c ∷ []) None (Sub y d) = (x ≡ y) × (c ≡ nothing)
Follows o K4 (Sub x c ∷ []) (Some (SubClass a b)) (Sub y d) = (x ≡ y) × (c ≡ a) × (d ≡ b)
Follows o K4 (Sub x c ∷ []) (Some (EquivalentClasses cs)) (Sub y d) = (x ≡ y) × Contains cs c × Contains cs d
Follows o K5 premises None (Sub x c) = (ds : List ℕ) × (slice_get o.nodes c ≡ Some (And ds)) × (premises ≡ map (Sub x) ds)
Follows o K6 (Sub x c ∷ []) None (Sub y d) = (x ≡ y) × (ds : List ℕ) × (slice_get o.nodes c ≡ Some (And ds)) × Contains ds d
Follows o K7 (Sub x c ∷ Sub y d ∷ []) (Some (DisjointClasses cs)) (Sub z e) = (x ≡ y) × (x ≡ z) × AtTwoPlaces cs c d × (e ≡ nothing)
Follows o K8 (Sub x e ∷ []) None (Edge y r (Expression c)) = (x ≡ y) × (slice_get o.nodes e ≡ Some (Exists r c))
Follows o K9 (Edge x r y ∷ Sub z c ∷ []) None (Sub w e) = (x ≡ w) × (y ≡ z) × (slice_get o.nodes e ≡ Some (Exists r c))
Follows o K10 (Edge x r y ∷ []) (Some (Domain s c)) (Sub z d) = (x ≡ z) × (r ≡ s) × (c ≡ d)
Follows o K11 (Edge x r y ∷ Sub z c ∷ []) None (Sub w d) = (x ≡ w) × (y ≡ z) × (c ≡ nothing) × (d ≡ nothing)
Follows o K12 (Edge x r y ∷ []) (Some (SubProperty chain t)) (Edge z s w) = (x ≡ z) × (y ≡ w) × (chain ≡ r ∷ []) × (t ≡ s)
Follows o K12 (Edge x r y ∷ []) (Some (EquivalentProperties rs)) (Edge z s w) = (x ≡ z) × (y ≡ w) × Contains rs r × Contains rs s
Follows o K13 premises (Some (SubProperty chain t)) (Edge x s y) = (1 < length chain) × IsWalk x chain y premises × (t ≡ s)
Follows o K13 premises (Some (Transitive t)) (Edge x s y) = IsWalk x (t ∷ t ∷ []) y premises × (t ≡ s)
Follows o K14 [] (Some (Reflexive r)) (Edge x s y) = (x ≡ y) × (r ≡ s)
Follows o K15 [] (Some (ClassAssertion c a)) (Sub x d) = (x ≡ Individual a) × (c ≡ d)
Follows o K16 [] (Some (PropertyAssertion r a b)) (Edge x s y) = (x ≡ Individual a) × (r ≡ s) × (y ≡ Individual b)
Follows o K17 [] (Some (SameIndividuals xs)) (Same a b) = AtTwoPlaces xs a b
Follows o K18 (Same a b ∷ Same c d ∷ []) None (Same e f) = (b ≡ c) × (a ≡ e) × (d ≡ f)
Follows o K19 (Same a b ∷ Sub y c ∷ []) None (Sub x d) = (y ≡ Individual b) × (x ≡ Individual a) × (c ≡ d)
Follows o K19 (Same a b ∷ Edge x r y ∷ []) None (Edge z s w) = IsMovedEdge a b (Edge x r y) (Edge z s w)
Follows o K20 (Same a b ∷ []) (Some (DifferentIndividuals xs)) (Sub x c) = AtTwoPlaces xs a b × (x ≡ Individual a) × (c ≡ nothing)
Follows o K20 (Edge x r y ∷ []) (Some (NegativePropertyAssertion s a b)) (Sub z c) = (x ≡ Individual a) × (r ≡ s) × (y ≡ Individual b) × (z ≡ Individual a) × (c ≡ nothing)
Follows o _ _ _ _ = ⊥
