-- What is kept of trees that are taken one by one.
use Rattle.std.specs.Prelude.{◌≡◌, List, [], ◌++◌, Bool, true, false, None}
use Rattle.axioms.specs.Growth.{empty_ontology}
use Rattle.axioms.specs.Ontology.{Ontology}
use Rattle.axioms.specs.Numbering.{Statement}
use Rattle.fs_parser.specs.Tree.{Tree}
use Rattle.fs_parser.specs.View.{trees_from}
use Rattle.shapes.specs.Faults.{Fault}
use Rattle.shapes.specs.Places.{faults_from}
use Rattle.shapes.specs.declared.place.Place.{Place}
use Rattle.shapes.specs.declared.place.Place.TheVariants.{Front, Axioms}
use Rattle.program.specs.declared.version.Version.{Version}
use Rattle.profile.specs.Additions.{AddsStatements, StatementsOverflow}
use Rattle.profile.specs.Statements.{statements}

-- before any tree is taken: by which version trees are read, where the first one stands, and the ontology that grows
pub record Start : Type 0 where
  pub version : Version
  pub place : Place
  pub ontology : Ontology

-- a document's trees, which state an ontology
abbrev pub of_document : Version → Start
of_document version = record { version = version; place = Front 2; ontology = empty_ontology }

-- axioms and declarations by which an ontology grows
abbrev pub of_growth : Version → Ontology → Start
of_growth version old = record { version = version; place = Axioms; ontology = old }

-- the version, the faults of the trees so far, the place behind them, whether with what they state a kind has too many names,
-- and if neither is so the ontology with what they state
pub record Taken : Type 0 where
  pub version : Version
  pub found : List Fault
  pub place : Place
  pub is_full : Bool
  pub ontology : Ontology

abbrev pub taken : Version → List Fault → Place → Bool → Ontology → Taken
taken version found place is_full ontology = record { version = version; found = found; place = place; is_full = is_full; ontology = ontology }

-- the ontology has grown by the statements; or with them a kind has too many names
abbrev pub AreStated : Ontology → List Statement → Bool → Ontology → Type 0
AreStated old ss false new = AddsStatements ss old new
AreStated old ss true new = StatementsOverflow ss old

-- these trees were taken, in this order, and no other
pub record AreTaken (start : Start) (trees : List Tree) (t : Taken) : Type 0 where
  pub version : t.version ≡ start.version
  -- whatever follows them, all its faults are those found and those of what follows
  pub faults : (more : List Tree) → faults_from start.version None start.place (trees_from (trees ++ more)) ≡ t.found ++ faults_from start.version None t.place (trees_from more)
  -- where they have none, what they state is there
  pub stated : t.found ≡ [] → AreStated start.ontology (statements start.version (trees_from trees)) t.is_full t.ontology

-- behind any trees that were taken these were, too
abbrev pub AreTakenBehind : List Tree → Taken → Taken → Type 0
AreTakenBehind trees old new = (start : Start) (before : List Tree) → AreTaken start before old → AreTaken start (before ++ trees) new
