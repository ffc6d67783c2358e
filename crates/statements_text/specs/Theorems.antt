-- What is proved of texts that are written: they are read as what was written.
use Rattle.std.specs.Prelude.{◌≡◌, ◌≤◌, ℕ, List, [], ◌∷◌, true}
use Rattle.axioms.specs.Numbering.{Statement, IsOntologyOf}
use Rattle.axioms.specs.Ontology.{Ontology}
use Rattle.axioms.specs.WellFormedness.{IsOntology}
use Rattle.fs_lexer.specs.Spelling.{Token, IsOfKind, Spells, is_iri_byte, is_run}
use Rattle.fs_parser.specs.Name.{Prefixes, IsNameOf}
use Rattle.std.specs.List.{Contains}
use Rattle.profile.specs.Documents.{AreTextOf, ReadsAs}
use Rattle.profile.specs.Statements.{statement_of, statements}
use Rattle.shapes.specs.Faults.{document_faults, faults}
use Rattle.shapes.specs.declared.expected.Expected.TheVariants.{Axiom}
use Rattle.fs_parser.specs.Tree.{Tree, Trees}
use Rattle.statements_text.specs.Restrictions.{IsRestricted, kept_statements}
use Rattle.statements_text.specs.declared.restriction.Restriction.{Restriction}
use Rattle.fs_parser.specs.Document.{Document}
use Rattle.profile.specs.Reading.{HasFewNames}
use Rattle.program.specs.declared.version.Version.{Version}
use Rattle.statements_text.specs.Sound.{AllSayable, IsSayable}
use Rattle.statements_text.specs.Terms.{Term, AllSpelled, HasSpelling, document_tokens, statement_term, term_depth, terms_document}
use Rattle.statements_text.specs.TreeTerms.{IsAmong, bare_term}
use Rattle.statements_text.specs.Texts.{document_text}

-- the text spells its tokens
abbrev pub TextSpellsTokens : Type 0
TextSpellsTokens = (ts : List Term) → AllSpelled ts → Spells (terms_document ts) (document_tokens ts)

-- the bytes are the text of a document without faults in this version, whose trees state these statements
pub record ReadsAsStatements (version : Version) (bytes : List ℕ) (ss : List Statement) : Type 0 where
  pub document : Document
  pub text : AreTextOf bytes document
  pub faultless : document_faults version document.trees ≡ []
  pub stated : statements version document.trees ≡ ss

-- the text of statements that can be written reads as these
abbrev pub StatementsAreRead : Type 0
StatementsAreRead = (version : Version) (ss : List Statement) → AllSayable version ss → ReadsAsStatements version (document_text ss) ss

-- the text of statements that can be written reads as their ontology
abbrev pub StatementsReadBack : Type 0
StatementsReadBack =
    (version : Version) (ss : List Statement) (o : Ontology) → AllSayable version ss → IsOntologyOf ss o → HasFewNames o → IsOntology o → ReadsAs version (document_text ss) o

-- the bytes of a name that a token stands for may stand between < and >, where those of the prefixes' IRIs may
abbrev pub NamesAreIriBytes : Type 0
NamesAreIriBytes =
    (prefixes : Prefixes) (t : Token) (iri : List ℕ) → ((name base : List ℕ) → Contains prefixes (name, base) → is_run is_iri_byte base ≡ true) →
    IsOfKind t.kind t.text → IsNameOf prefixes t iri → is_run is_iri_byte iri ≡ true

-- what a tree without faults states has the tree's term, without the annotations in front. Where that can be spelled, and at most
-- 64 parentheses are open at once in it, the statement can be said
abbrev pub TreesCanBeSaid : Type 0
TreesCanBeSaid =
    (version : Version) (t : Tree) (s : Statement) → faults version Axiom t ≡ [] → statement_of version t ≡ s ∷ [] →
    (bare_term t ≡ statement_term s) × (HasSpelling (bare_term t) → term_depth (bare_term t) ≤ 64 → IsSayable version s)

-- what a tree of a text's document states, if the tree has no fault, can be said
abbrev pub StatedCanBeSaid : Type 0
StatedCanBeSaid =
    (version : Version) (bytes : List ℕ) (d : Document) (t : Tree) (s : Statement) → AreTextOf bytes d → IsAmong d.trees t →
    faults version Axiom t ≡ [] → statement_of version t ≡ s ∷ [] → IsSayable version s

-- ---- what is kept of a document

-- what is kept is stated by the document
abbrev pub KeptIsStated : Type 0
KeptIsStated = (version : Version) (ts : Trees) (s : Statement) → Contains (kept_statements version ts) s → Contains (statements version ts) s

-- of a document without faults all is kept: it reads as the ontology of what is kept
abbrev pub FaultlessIsKeptWhole : Type 0
FaultlessIsKeptWhole =
    (version : Version) (bytes : List ℕ) (d : Document) (r : Restriction) → AreTextOf bytes d → (kept : IsRestricted version d r) → document_faults version d.trees ≡ [] →
    ReadsAs version bytes kept.ontology
