-- What comes of the trees that a reader has taken: of a document, or by which an ontology grows.
use Rattle.std.specs.Prelude.{List}
use Rattle.axioms.specs.Ontology.{Ontology}
use Rattle.fs_parser.specs.Tree.{Tree}
use Rattle.fs_parser.specs.View.{trees_from}
use Rattle.program.specs.declared.version.Version.{Version}
use Rattle.profile.specs.Growth.{AreAddedAs, RefusesStatements}
use Rattle.profile.specs.Reading.{AreReadAs, Refuses}
use Rattle.profile.specs.Intake.{AreTaken, Taken, of_document, of_growth}
use Rattle.profile.specs.declared.acceptance.Refusal.{Refusal}

-- the ontology is the one that the trees state
abbrev pub IsRead : Taken → Ontology → Type 0
IsRead t o = (version : Version) (trees : List Tree) → AreTaken (of_document version) trees t → AreReadAs version (trees_from trees) o

-- the refusal tells why the trees state none
abbrev pub IsRefused : Taken → Refusal → Type 0
IsRefused t r = (version : Version) (trees : List Tree) → AreTaken (of_document version) trees t → Refuses version r (trees_from trees)

-- the ontology is the old one with what the trees bring
abbrev pub IsGrown : Taken → Ontology → Type 0
IsGrown t o = (version : Version) (old : Ontology) (trees : List Tree) → AreTaken (of_growth version old) trees t → AreAddedAs version old (trees_from trees) o

-- the refusal tells why they cannot be added to it
abbrev pub IsNotGrown : Taken → Refusal → Type 0
IsNotGrown t r = (version : Version) (old : Ontology) (trees : List Tree) → AreTaken (of_growth version old) trees t → RefusesStatements version r old (trees_from trees)
