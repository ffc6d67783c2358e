-- What a fault says of a document.
use Rattle.std.specs.Prelude.{◌≡◌, List, [], ℕ, ◌<◌, ◌≤◌, length, Option, Some, None}
use Rattle.std.specs.Io.KnownBytes.{IsAtEnd}
use Rattle.std.specs.Str.{IsUtf8, IsValidUpTo}
use Rattle.axioms.specs.Ontology.{Ontology}
use Rattle.fs_lexer.specs.Faults as lexer
use Rattle.fs_lexer.specs.Spelling.{Token, Spells}
use Rattle.fs_lexer.specs.declared.token.LexFault.{LexFault}
use Rattle.fs_lexer.specs.declared.token.LexFault.TheVariants as lexing
use Rattle.fs_parser.specs.Document.{Document, IsDocument}
use Rattle.fs_parser.specs.Faults as parser
use Rattle.fs_parser.specs.State as parser_state
use Rattle.fs_parser.specs.declared.fault.ParseFault.{ParseFault}
use Rattle.fs_parser.specs.declared.fault.ParseFault.TheVariants as parsing
use Rattle.profile.specs.Reading.{HaveTooManyNames}
use Rattle.profile.specs.declared.acceptance.Refusal.{Refusal}
use Rattle.profile.specs.declared.acceptance.Refusal.TheVariants as refusing
use Rattle.shapes.specs.Faults.{document_faults}
use Rattle.shapes.specs.View.{faults_of}
use Rattle.shapes.specs.declared.fault.Fault.{Fault}
use Rattle.program.specs.declared.version.Version.{Version}
use Rattle.profile.specs.Statements.{statements}
use Rattle.profile.specs.declared.fault.DocumentFault.{DocumentFault}
use Rattle.profile.specs.declared.fault.DocumentFault.TheVariants.{NotUtf8, TooLarge, Io, Lex, Parse, Faults, TooManyNames, Memory}
use Rattle.profile.specs.declared.opened.Opened.{Opened}
use Rattle.profile.specs.Documents.{AreTextOf, OpensAs, ReadsAs}

-- the faults of the parts as faults of the whole: a refused growth is one thing everywhere
abbrev pub of_lexing : LexFault → DocumentFault
of_lexing lexing.Memory = Memory
of_lexing fault = Lex fault

abbrev pub of_parsing : ParseFault → DocumentFault
of_parsing parsing.Memory = Memory
of_parsing fault = Parse fault

abbrev pub of_refusal : Refusal → DocumentFault
of_refusal (refusing.Faults found) = Faults found
of_refusal refusing.TooManyNames = TooManyNames
of_refusal refusing.Memory = Memory

-- the bytes read as no ontology in this version
abbrev pub ReadAsNone : Version → List ℕ → Type 0
ReadAsNone version bytes = (o : Ontology) → ReadsAs version bytes o → ⊥

-- the bytes are a text that spells no tokens, and what the fault says of its place holds
pub record SpellNoTokens (bytes : List ℕ) (fault : LexFault) : Type 0 where
  pub refusal : lexer.IsRefusal fault
  pub utf8 : IsUtf8 bytes
  pub none : (tokens : List Token) → Spells bytes tokens → ⊥
  pub placed : lexer.IsPlaced bytes fault

-- the bytes are a text whose tokens are no document, and what the fault says of its place holds
pub record AreNoDocument (bytes : List ℕ) (fault : ParseFault) : Type 0 where
  pub refusal : parser_state.IsRefusal fault
  pub utf8 : IsUtf8 bytes
  pub tokens : List Token
  pub spelled : Spells bytes tokens
  pub none : (document : Document) → IsDocument document tokens → ⊥
  pub placed : parser.IsPlaced tokens fault

-- the bytes are the text of a document, and these are all its faults, in the order of the text
pub record HaveFaults (version : Version) (bytes : List ℕ) (found : List Fault) : Type 0 where
  pub document : Document
  pub text : AreTextOf bytes document
  pub all : document_faults version document.trees ≡ faults_of found
  pub some : ¬ (found ≡ [])

-- the bytes are the text of a document without faults, whose statements have of a kind more names than there may be
pub record StateTooManyNames (version : Version) (bytes : List ℕ) : Type 0 where
  pub document : Document
  pub text : AreTextOf bytes document
  pub faultless : document_faults version document.trees ≡ []
  pub many : HaveTooManyNames (statements version document.trees)

-- what the fault says of the bytes
abbrev pub Refuses : Version → DocumentFault → List ℕ → Type 0
Refuses version (NotUtf8 at) bytes = ¬ IsUtf8 bytes × IsValidUpTo bytes at
Refuses version (Lex fault) bytes = SpellNoTokens bytes fault
Refuses version (Parse fault) bytes = AreNoDocument bytes fault
Refuses version (Faults found) bytes = HaveFaults version bytes found.items
Refuses version TooManyNames bytes = StateTooManyNames version bytes
Refuses version Memory bytes = Unit {0}
Refuses version TooLarge bytes = ⊥
Refuses version Io bytes = ⊥

-- the fault is of the tokens or of the forms that they make, or memory was refused
abbrev pub IsOfForms : DocumentFault → Type 0
IsOfForms (Lex fault) = Unit {0}
IsOfForms (Parse fault) = Unit {0}
IsOfForms Memory = Unit {0}
IsOfForms fault = ⊥

-- what an answer says of the bytes of a source that tells them, where at most so many are allowed
abbrev pub ReadsKnown : Version → Option (List ℕ) → ℕ → Ontology → Type 0
ReadsKnown version None most o = Unit {0}
ReadsKnown version (Some bytes) most o = ReadsAs version bytes o × (length bytes ≤ most)

abbrev pub OpensKnown : Version → Option (List ℕ) → ℕ → Opened → Type 0
OpensKnown version None most opened = Unit {0}
OpensKnown version (Some bytes) most opened = OpensAs version bytes opened × (length bytes ≤ most)

abbrev pub RefusesKnown : Version → Option (List ℕ) → ℕ → DocumentFault → Type 0
RefusesKnown version None most e = Unit {0}
RefusesKnown version (Some bytes) most TooLarge = most < length bytes
RefusesKnown version (Some bytes) most Io = Unit {0}
RefusesKnown version (Some bytes) most Memory = Unit {0}
RefusesKnown version (Some bytes) most e = Refuses version e bytes × (length bytes ≤ most)

-- behind a fault of its bytes the source is at its end; where it failed, or had too many, or memory was refused, it may have more
abbrev pub IsReadWhole : DocumentFault → (left : Option (List ℕ)) → Type 0
IsReadWhole Io left = Unit {0}
IsReadWhole TooLarge left = Unit {0}
IsReadWhole Memory left = Unit {0}
IsReadWhole fault left = IsAtEnd left
