-- Which IRIs may name what (OWL 2 Structural Specification, sections 2.4, 5.1, 5.3, 5.5 and 5.6).
use Rattle.std.specs.Prelude.{ℕ, List, Bool, true, false, ◌||◌, not, Option, Some, None, codes, nat_eq}
use Rattle.std.specs.List.{list_any, starts_with}
use Rattle.std.specs.Str.{bytes_eq}
use Rattle.axioms.specs.Expression.{owl_thing, owl_nothing}
use Rattle.axioms.specs.Growth.{names_of}
use Rattle.axioms.specs.Ontology.{Names}
use Rattle.axioms.specs.declared.terms.Kind.{Kind}
use Rattle.axioms.specs.declared.terms.Kind.TheVariants as kinds
use Rattle.shapes.specs.declared.expected.Expected.{Expected}
use Rattle.shapes.specs.declared.expected.Expected.TheVariants.{Axiom, Annotation, Entity, ClassExpression, Class, Property, PropertyOrChain, Individual}

-- an IRI is reserved where it begins with that of a standard prefix (section 2.4)
abbrev pub is_reserved : List ℕ → Bool
is_reserved iri =
    starts_with nat_eq iri (codes "http://www.w3.org/1999/02/22-rdf-syntax-ns#")
    || (starts_with nat_eq iri (codes "http://www.w3.org/2000/01/rdf-schema#")
    || (starts_with nat_eq iri (codes "http://www.w3.org/2001/XMLSchema#")
    || starts_with nat_eq iri (codes "http://www.w3.org/2002/07/owl#")))

-- of the reserved IRIs two name classes (section 5.1)
abbrev pub is_class_name : List ℕ → Bool
is_class_name iri = not (is_reserved iri) || (bytes_eq iri owl_thing || bytes_eq iri owl_nothing)

-- whether what is expected may be named so; an annotation's names may be any IRIs
abbrev pub is_allowed : Expected → List ℕ → Bool
is_allowed ClassExpression iri = is_class_name iri
is_allowed Class iri = is_class_name iri
is_allowed Property iri = not (is_reserved iri)
is_allowed PropertyOrChain iri = not (is_reserved iri)
is_allowed Individual iri = not (is_reserved iri)
is_allowed _ iri = true

-- whether a name may stand there
abbrev pub may_be_name : Expected → Bool
may_be_name Axiom = false
may_be_name Annotation = false
may_be_name Entity = false
may_be_name _ = true

-- the kind of the names that an ontology has for what is expected; it has none for what an annotation speaks of
abbrev pub kind_of : Expected → Option Kind
kind_of ClassExpression = Some kinds.Class
kind_of Class = Some kinds.Class
kind_of Property = Some kinds.Property
kind_of PropertyOrChain = Some kinds.Property
kind_of Individual = Some kinds.Individual
kind_of _ = None

abbrev pub is_of_kind : Names → Option Kind → List ℕ → Bool
is_of_kind names None iri = true
is_of_kind names (Some kind) iri = list_any (bytes_eq iri) (names_of names kind)

-- whether there is such a name: any, or one of an ontology's names where only these may stand
abbrev pub is_there : Option Names → Expected → List ℕ → Bool
is_there None expected iri = true
is_there (Some names) expected iri = is_of_kind names (kind_of expected) iri
