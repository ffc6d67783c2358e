-- The keywords of the standard: those of the profile, and those that it refuses.
use Rattle.std.specs.Prelude.{ℕ, List, [], ◌∷◌, Bool, ◌&&◌, ◌||◌, not, codes}
use Rattle.std.specs.List.{list_any}
use Rattle.std.specs.Option.{is_some}
use Rattle.std.specs.Str.{bytes_eq}
use Rattle.shapes.specs.declared.expected.Expected.{Expected}
use Rattle.shapes.specs.declared.expected.Expected.TheVariants.{Axiom, Annotation, Entity, ClassExpression, PropertyOrChain}
use Rattle.shapes.specs.Shapes.{operands_of}
use Rattle.program.specs.declared.version.Version.{Version}

-- of the standard, and not in the first version
abbrev pub refused_keywords : List (List ℕ)
refused_keywords =
    codes "Import" ∷ codes "ObjectUnionOf" ∷ codes "ObjectComplementOf" ∷ codes "ObjectOneOf" ∷ codes "ObjectAllValuesFrom"
    ∷ codes "ObjectHasValue" ∷ codes "ObjectHasSelf" ∷ codes "ObjectMinCardinality" ∷ codes "ObjectMaxCardinality"
    ∷ codes "ObjectExactCardinality" ∷ codes "ObjectInverseOf" ∷ codes "DataSomeValuesFrom" ∷ codes "DataAllValuesFrom"
    ∷ codes "DataHasValue" ∷ codes "DataMinCardinality" ∷ codes "DataMaxCardinality" ∷ codes "DataExactCardinality"
    ∷ codes "DataIntersectionOf" ∷ codes "DataUnionOf" ∷ codes "DataComplementOf" ∷ codes "DataOneOf"
    ∷ codes "DatatypeRestriction" ∷ codes "DisjointUnion" ∷ codes "DisjointObjectProperties" ∷ codes "InverseObjectProperties"
    ∷ codes "ObjectPropertyRange" ∷ codes "FunctionalObjectProperty" ∷ codes "InverseFunctionalObjectProperty"
    ∷ codes "IrreflexiveObjectProperty" ∷ codes "SymmetricObjectProperty" ∷ codes "AsymmetricObjectProperty"
    ∷ codes "SubDataPropertyOf" ∷ codes "EquivalentDataProperties" ∷ codes "DisjointDataProperties"
    ∷ codes "DataPropertyDomain" ∷ codes "DataPropertyRange" ∷ codes "FunctionalDataProperty" ∷ codes "DatatypeDefinition"
    ∷ codes "HasKey" ∷ codes "DataPropertyAssertion" ∷ codes "NegativeDataPropertyAssertion" ∷ codes "Datatype"
    ∷ codes "DataProperty" ∷ codes "SameIndividual" ∷ codes "DifferentIndividuals" ∷ codes "NegativeObjectPropertyAssertion"
    ∷ []

abbrev pub is_one_of : List (List ℕ) → List ℕ → Bool
is_one_of keywords keyword = list_any (λ k. bytes_eq k keyword) keywords

-- the version has a row of the keyword where such a tree is expected
abbrev pub has_shape : Version → Expected → List ℕ → Bool
has_shape version expected keyword = is_some (operands_of version expected keyword)

-- of documents, or of a row
unfoldable pub is_known : Version → List ℕ → Bool
is_known version keyword =
    bytes_eq keyword (codes "Prefix") || (bytes_eq keyword (codes "Ontology")
    || (has_shape version Axiom keyword || (has_shape version Annotation keyword || (has_shape version Entity keyword
    || (has_shape version ClassExpression keyword || has_shape version PropertyOrChain keyword)))))

-- one of these, and the version has no row of it
unfoldable pub is_refused : Version → List ℕ → Bool
is_refused version keyword = is_one_of refused_keywords keyword && not (is_known version keyword)
