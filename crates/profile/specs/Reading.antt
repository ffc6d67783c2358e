-- The ontology that a document's trees state, where they have no faults (OWL 2 Profiles, section 2.2; OWL 2 Structural
-- Specification, sections 3 and 5 to 10), and its names.
use Rattle.std.specs.Prelude.{◌≡◌, ◌⊎◌, List, [], ◌∷◌}
use Rattle.std.specs.Str.{bytes_eq}
use Rattle.std.specs.List.{filter_map, flat_map}
use Rattle.axioms.specs.Expression.{Iri, Named, owl_thing, owl_nothing}
use Rattle.axioms.specs.Ontology.{Ontology}
use Rattle.axioms.specs.Numbering.{Statement, IsOntologyOf, first_places, same_expression, class_name, statement_expressions, statement_properties, statement_individuals}
use Rattle.fs_parser.specs.Tree.{Trees}
use Rattle.shapes.specs.Faults.{document_faults}
use Rattle.shapes.specs.View.{faults_of}
use Rattle.program.specs.declared.version.Version.{Version}
pub use Rattle.profile.specs.Additions.{HasFewNames}
use Rattle.profile.specs.Additions.{AreTooMany}
use Rattle.profile.specs.Statements.{statements}
use Rattle.profile.specs.declared.acceptance.Refusal.{Refusal}
use Rattle.profile.specs.declared.acceptance.Refusal.TheVariants.{Faults, TooManyNames, Memory}

-- the names of each kind in statements, each at its first place; owl:Thing and owl:Nothing come first
abbrev pub class_names : List Statement → List Iri
class_names ss = filter_map class_name (first_places same_expression (Named owl_thing ∷ Named owl_nothing ∷ flat_map statement_expressions ss))

abbrev pub property_names : List Statement → List Iri
property_names ss = first_places bytes_eq (flat_map statement_properties ss)

abbrev pub individual_names : List Statement → List Iri
individual_names ss = first_places bytes_eq (flat_map statement_individuals ss)

-- of a kind the statements have more names than there may be
abbrev pub HaveTooManyNames : List Statement → Type 0
HaveTooManyNames ss = AreTooMany (class_names ss) ⊎ (AreTooMany (property_names ss) ⊎ AreTooMany (individual_names ss))

-- the trees have no faults in this version, and the ontology is that of their statements
pub record AreReadAs (version : Version) (trees : Trees) (o : Ontology) : Type 0 where
  pub faultless : document_faults version trees ≡ []
  pub ontology : IsOntologyOf (statements version trees) o
  pub few_names : HasFewNames o

-- what a refusal says of the trees: these are all their faults, in the order of the text; or they have none, and too many names
abbrev pub Refuses : Version → Refusal → Trees → Type 0
Refuses version (Faults found) trees = (document_faults version trees ≡ faults_of found.items) × ¬ (found.items ≡ [])
Refuses version TooManyNames trees = (document_faults version trees ≡ []) × HaveTooManyNames (statements version trees)
Refuses version Memory trees = Unit {0}
