-- Axioms in the functional syntax, with full IRIs and single spaces (OWL 2 Structural Specification, sections 9.1, 9.2 and 9.6).
use Rattle.std.specs.Prelude.{ℕ, List, [], ◌∷◌, ◌++◌, codes, map}
use Rattle.std.specs.List.{join_by}
use Rattle.axioms.specs.Axiom.{Axiom, SubClassOf, EquivalentClasses, DisjointClasses, SubPropertyOf, EquivalentProperties, PropertyDomain, TransitiveProperty, ReflexiveProperty, ClassAssertion, PropertyAssertion, SameIndividuals, DifferentIndividuals, NegativePropertyAssertion}
use Rattle.axioms.specs.Expression.{Iri}
use Rattle.axioms.specs.Ontology as numbered
use Rattle.answer_texts.specs.Names.{line_feed, name_text, expression_text}

-- a keyword and its operands in parentheses, with a space between two of them
abbrev pub form : List ℕ → List (List ℕ) → List ℕ
form keyword operands = keyword ++ codes "(" ++ join_by (λ t. t) (codes " ") operands ++ codes ")"

-- one property, or a chain of two or more
abbrev pub chain_text : List Iri → List ℕ
chain_text (r ∷ []) = name_text r
chain_text rs = form (codes "ObjectPropertyChain") (map name_text rs)

abbrev pub axiom_text : Axiom → List ℕ
axiom_text (SubClassOf c d) = form (codes "SubClassOf") (expression_text c ∷ expression_text d ∷ [])
axiom_text (EquivalentClasses cs) = form (codes "EquivalentClasses") (map expression_text cs)
axiom_text (DisjointClasses cs) = form (codes "DisjointClasses") (map expression_text cs)
axiom_text (SubPropertyOf chain s) = form (codes "SubObjectPropertyOf") (chain_text chain ∷ name_text s ∷ [])
axiom_text (EquivalentProperties rs) = form (codes "EquivalentObjectProperties") (map name_text rs)
axiom_text (PropertyDomain r c) = form (codes "ObjectPropertyDomain") (name_text r ∷ expression_text c ∷ [])
axiom_text (TransitiveProperty r) = form (codes "TransitiveObjectProperty") (name_text r ∷ [])
axiom_text (ReflexiveProperty r) = form (codes "ReflexiveObjectProperty") (name_text r ∷ [])
axiom_text (ClassAssertion c a) = form (codes "ClassAssertion") (expression_text c ∷ name_text a ∷ [])
axiom_text (PropertyAssertion r a b) = form (codes "ObjectPropertyAssertion") (name_text r ∷ name_text a ∷ name_text b ∷ [])
axiom_text (SameIndividuals xs) = form (codes "SameIndividual") (map name_text xs)
axiom_text (DifferentIndividuals xs) = form (codes "DifferentIndividuals") (map name_text xs)
axiom_text (NegativePropertyAssertion r a b) = form (codes "NegativeObjectPropertyAssertion") (name_text r ∷ name_text a ∷ name_text b ∷ [])

-- an axiom of an ontology, as a line
abbrev pub axiom_line : numbered.Ontology → numbered.Axiom → List ℕ
axiom_line o a = axiom_text (numbered.axiom_tree o a) ++ line_feed
