-- The documents that are read, and what they read as.
use Rattle.std.specs.Prelude.{◌≡◌, ℕ, List, true, false, length}
use Rattle.std.specs.List.{All}
use Rattle.std.specs.Str.{IsUtf8}
use Rattle.axioms.specs.Ontology.{Names, Ontology}
use Rattle.axioms.specs.Numbering.{Statement, IsOntologyOf}
use Rattle.axioms.specs.WellFormedness.{IsOntology}
use Rattle.fs_lexer.specs.Spelling.{Token, Spells}
use Rattle.fs_parser.specs.Document.{Document, IsDocument, prefixes_of}
use Rattle.fs_parser.specs.Name.{Prefixes, CanBeSpelled}
use Rattle.profile.specs.Reading.{AreReadAs, HasFewNames}
use Rattle.shapes.specs.Names.{is_class_name, is_reserved}
use Rattle.profile.specs.declared.opened.Opened.{Opened}
use Rattle.program.specs.declared.version.Version.{Version}

-- the bytes are the text of the document
pub record AreTextOf (bytes : List ℕ) (document : Document) : Type 0 where
  pub utf8 : IsUtf8 bytes
  pub tokens : List Token
  pub spelled : Spells bytes tokens
  pub written : IsDocument document tokens

-- the bytes are the text of a document without faults in this version, and the ontology is the well-formed one of its statements
pub record ReadsAs (version : Version) (bytes : List ℕ) (o : Ontology) : Type 0 where
  pub document : Document
  pub text : AreTextOf bytes document
  pub read : AreReadAs version document.trees o
  pub well_formed : IsOntology o

-- the bytes read as the ontology, and these are the prefixes with which the names of their document are expanded
pub record ReadsWith (version : Version) (bytes : List ℕ) (o : Ontology) (prefixes : Prefixes) : Type 0 where
  pub reads : ReadsAs version bytes o
  pub prefixes_are : prefixes ≡ prefixes_of reads.document

-- what was opened is what the bytes read as, with the prefixes of their document, how many they are, and the version
pub record OpensAs (version : Version) (bytes : List ℕ) (opened : Opened) : Type 0 where
  pub reads : ReadsWith version bytes opened.ontology opened.prefixes
  pub number : opened.bytes ≡ length bytes
  pub read_in : opened.version ≡ version

-- each name can be written where names of its kind may stand: it can be spelled, and it is allowed there
pub record HasSayableNames (names : Names) : Type 0 where
  pub classes : All (λ c. CanBeSpelled c × (is_class_name c ≡ true)) names.classes
  pub properties : All (λ r. CanBeSpelled r × (is_reserved r ≡ false)) names.properties
  pub individuals : All (λ a. CanBeSpelled a × (is_reserved a ≡ false)) names.individuals

-- what holds of every ontology that is read, also of a source that does not tell its bytes: it is well formed, and that of
-- some statements, with as many names as there may be, and each name can be written where names of its kind may stand
pub record IsTaken (o : Ontology) : Type 0 where
  pub statements : List Statement
  pub numbered : IsOntologyOf statements o
  pub few_names : HasFewNames o
  pub well_formed : IsOntology o
  pub sayable : HasSayableNames o.names
