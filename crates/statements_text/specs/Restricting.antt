-- What is made of the trees of a document, taken one by one.
use Rattle.std.specs.Prelude.{◌≡◌, ℕ, ◌+◌, List, [], ◌∷◌, ◌++◌, None, if◌then◌else◌, length, map}
use Rattle.fs_parser.specs.Document.{Document}
use Rattle.fs_parser.specs.Rest.{AreLeft, TextLeft}
use Rattle.fs_parser.specs.Tree.{Tree, Trees, Empty, Then}
use Rattle.fs_parser.specs.View.{trees_from}
use Rattle.profile.specs.Documents.{AreTextOf}
use Rattle.profile.specs.Intake.{AreTaken, AreTakenBehind, of_document}
use Rattle.program.specs.declared.version.Version.{Version}
use Rattle.shapes.specs.Faults.{document_faults}
use Rattle.shapes.specs.Places.{faults_at, place_behind}
use Rattle.shapes.specs.View.{faults_of}
use Rattle.shapes.specs.declared.place.Place.TheVariants.{Front}
use Rattle.statements_text.specs.Restrictions.{faulty, has_none, kept_trees}
use Rattle.statements_text.specs.Terms.{line_text, lines_text}
use Rattle.statements_text.specs.TreeTerms.{bare_term}
use Rattle.statements_text.specs.declared.restriction.Restricting.{Restricting}

-- before the first tree
pub record IsBegun (version : Version) (r : Restricting) : Type 0 where
  pub version_is : r.version ≡ version
  pub place : r.place ≡ Front 2
  pub faults : r.faults.items ≡ []
  pub lines : r.lines.items ≡ []
  pub reader : AreTaken (of_document version) [] r.reader
  pub kept : r.kept ≡ 0
  pub left_out : r.left_out ≡ 0

-- the tree has a line, and its statement is there
pub record KeepsTree (tree : Tree) (old new : Restricting) : Type 0 where
  pub version : new.version ≡ old.version
  pub place : new.place ≡ old.place
  pub faults : new.faults ≡ old.faults
  pub lines : new.lines.items ≡ old.lines.items ++ line_text (bare_term tree)
  pub reader : AreTakenBehind (tree ∷ []) old.reader new.reader
  pub kept : new.kept ≡ old.kept + 1
  pub left_out : new.left_out ≡ old.left_out

-- the trees that are kept of one tree
abbrev pub kept_of : Version → Tree → List Tree
kept_of version tree = kept_trees version (Then tree Empty)

-- its faults are found, and it is kept where it has none and states something
pub record TakesTree (tree : Tree) (old new : Restricting) : Type 0 where
  pub version : new.version ≡ old.version
  pub place : new.place ≡ place_behind old.place tree
  pub faults : faults_of new.faults.items ≡ faults_of old.faults.items ++ faults_at old.version None old.place tree
  pub lines : new.lines.items ≡ old.lines.items ++ lines_text (map bare_term (kept_of old.version tree))
  pub reader : AreTakenBehind (kept_of old.version tree) old.reader new.reader
  pub kept : new.kept ≡ old.kept + length (kept_of old.version tree)
  pub left_out : new.left_out ≡ old.left_out + (if has_none (faults_at old.version None old.place tree) then 0 else 1)

-- all trees were taken
pub record IsWhole (version : Version) (trees : Trees) (r : Restricting) : Type 0 where
  pub faults : faults_of r.faults.items ≡ document_faults version trees
  pub lines : r.lines.items ≡ lines_text (map bare_term (kept_trees version trees))
  pub reader : AreTaken (of_document version) (kept_trees version trees) r.reader
  pub kept : r.kept ≡ length (kept_trees version trees)
  pub left_out : r.left_out ≡ faulty version trees

-- all the trees that were left were taken
pub record TakesAll (version : Version) (left : TextLeft) (r : Restricting) : Type 0 where
  pub trees : List Tree
  pub left_are : AreLeft left trees
  pub whole : IsWhole version (trees_from trees) r

-- the bytes are the text of a document, all trees of which were taken
pub record IsWholeOf (version : Version) (bytes : List ℕ) (r : Restricting) : Type 0 where
  pub document : Document
  pub text : AreTextOf bytes document
  pub whole : IsWhole version document.trees r
