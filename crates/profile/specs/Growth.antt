-- An ontology that grows: by the statements of trees, and by a class expression over its names.
use Rattle.std.specs.Prelude.{◌≡◌, ℕ, List, [], ◌++◌, slice_get, Some}
use Rattle.axioms.specs.Ontology.{Ontology, axiom_trees, trees}
use Rattle.axioms.specs.Numbering.{Statement, IsOntologyOf, parts, properties_in}
use Rattle.fs_parser.specs.Tree.{Tree, Trees}
use Rattle.shapes.specs.Faults.{axiom_faults, expression_faults}
use Rattle.shapes.specs.View.{faults_of}
use Rattle.program.specs.declared.version.Version.{Version}
use Rattle.profile.specs.Additions.{Adds, HasFewNames, AddsStatements, KeepsNumbers, StatementsOverflow}
use Rattle.profile.specs.Statements.{class_of, statements}
use Rattle.profile.specs.declared.acceptance.Refusal.{Refusal}
use Rattle.profile.specs.declared.acceptance.Refusal.TheVariants.{Faults, TooManyNames, Memory}

-- the trees are axioms and declarations without faults, and the new ontology is the old one with all that they bring, each at
-- its first place
pub record AreAddedAs (version : Version) (old : Ontology) (trees : Trees) (new : Ontology) : Type 0 where
  pub faultless : axiom_faults version trees ≡ []
  pub adds : AddsStatements (statements version trees) old new
  pub kept : KeepsNumbers old new
  pub few_names : HasFewNames new
  -- so it is that of the statements of both
  pub ontology : (ss : List Statement) → IsOntologyOf ss old → IsOntologyOf (ss ++ statements version trees) new

-- what a refusal says: these are all their faults, in the order of the text; or they have none, and with them too many names
abbrev pub RefusesStatements : Version → Refusal → Ontology → Trees → Type 0
RefusesStatements version (Faults found) old trees = (axiom_faults version trees ≡ faults_of found.items) × ¬ (found.items ≡ [])
RefusesStatements version TooManyNames old trees = (axiom_faults version trees ≡ []) × StatementsOverflow (statements version trees) old
RefusesStatements version Memory old trees = Unit {0}

-- the tree is a class expression without faults, over names that the old ontology has, and has this number in the new one,
-- which is the old one with its parts, each at its first place, and with no new name or axiom
pub record IsAddedAs (version : Version) (old : Ontology) (tree : Tree) (new : Ontology) (number : ℕ) : Type 0 where
  pub faultless : expression_faults version old.names tree ≡ []
  pub adds : Adds (parts (class_of tree)) (properties_in (class_of tree)) [] [] old new
  pub at : slice_get (trees new) number ≡ Some (class_of tree)
  pub names : new.names ≡ old.names
  pub axioms : axiom_trees new ≡ axiom_trees old

-- what a refusal says: these are all the tree's faults, in the order of the text
abbrev pub RefusesExpression : Version → Refusal → Ontology → Tree → Type 0
RefusesExpression version (Faults found) old tree = (expression_faults version old.names tree ≡ faults_of found.items) × ¬ (found.items ≡ [])
RefusesExpression version TooManyNames old tree = ⊥
RefusesExpression version Memory old tree = Unit {0}
