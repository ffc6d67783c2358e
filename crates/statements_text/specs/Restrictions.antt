-- What of a document is of the profile: its trees without faults that state something (OWL 2 Profiles, section 2.2).
use Rattle.std.specs.Prelude.{◌≡◌, ℕ, ◌+◌, List, [], ◌∷◌, ◌++◌, Bool, true, false, ◌&&◌, not, None, if◌then◌else◌, codes, length, string_bytes}
use Rattle.std.specs.List.{flat_map}
use Rattle.std.specs.Fmt.{decimal}
use Rattle.axioms.specs.Numbering.{Statement, IsOntologyOf}
use Rattle.axioms.specs.Ontology.{Ontology}
use Rattle.fs_parser.specs.Document.{Document}
use Rattle.fs_parser.specs.Tree.{Tree, Trees, Empty, Then}
use Rattle.fs_parser.specs.View.{trees_from}
use Rattle.profile.specs.Documents.{AreTextOf, ReadsAs}
use Rattle.profile.specs.Faults.{Refuses}
use Rattle.profile.specs.Reading.{HaveTooManyNames}
use Rattle.profile.specs.Statements.{statement_of, statements}
use Rattle.profile.specs.declared.fault.DocumentFault.{DocumentFault}
use Rattle.profile.specs.declared.fault.DocumentFault.TheVariants.{Faults, TooManyNames}
use Rattle.program.specs.declared.version.Version.{Version}
use Rattle.shapes.specs.Faults.{Fault, document_faults, faults}
use Rattle.shapes.specs.Messages.{fault_text}
use Rattle.shapes.specs.Places.{faults_at, place_behind}
use Rattle.shapes.specs.declared.expected.Expected.TheVariants.{Axiom}
use Rattle.shapes.specs.declared.place.Place.{Place}
use Rattle.shapes.specs.declared.place.Place.TheVariants.{Front}
use Rattle.statements_text.specs.Texts.{document_text}
use Rattle.statements_text.specs.declared.restriction.Restriction.{Restriction}

-- the list is empty
abbrev pub has_none : {A : Type 0} → List A → Bool
has_none [] = true
has_none (x ∷ xs) = false

-- the tree is kept: it has no fault where an axiom is expected, and states something
abbrev pub is_kept : Version → Tree → Bool
is_kept version tree = has_none (faults version Axiom tree) && not (has_none (statement_of version tree))

-- those of the trees that are kept, in their order
abbrev pub kept_trees : Version → Trees → List Tree
kept_trees version Empty = []
kept_trees version (Then first rest) = if is_kept version first then first ∷ kept_trees version rest else kept_trees version rest

-- what they state
abbrev pub kept_statements : Version → Trees → List Statement
kept_statements version trees = statements version (trees_from (kept_trees version trees))

-- how many of the trees have a fault where they stand, the first at the place
abbrev pub faulty_from : Version → Place → Trees → ℕ
faulty_from version place Empty = 0
faulty_from version place (Then first rest) =
    (if has_none (faults_at version None place first) then 0 else 1) + faulty_from version (place_behind place first) rest

-- of the trees of a document
abbrev pub faulty : Version → Trees → ℕ
faulty version trees = faulty_from version (Front 2) trees

-- ---- the report

-- the line of a fault
abbrev pub fault_line : Fault → List ℕ
fault_line fault = fault_text fault ++ codes "\n"

-- a line for each fault, and how many statements are kept and how many trees are left out
abbrev pub report_text : List Fault → (kept left_out : ℕ) → List ℕ
report_text found kept left_out = flat_map fault_line found ++ (codes "kept " ++ (decimal kept ++ (codes " left out " ++ (decimal left_out ++ codes "\n"))))

-- ---- the call

-- the text is that of what is kept of the document, and reads as its ontology; each fault of the document is reported
pub record IsRestricted (version : Version) (d : Document) (r : Restriction) : Type 0 where
  pub text : r.text.items ≡ document_text (kept_statements version d.trees)
  pub ontology : Ontology
  pub numbered : IsOntologyOf (kept_statements version d.trees) ontology
  pub reads : ReadsAs version r.text.items ontology
  pub report : string_bytes r.report ≡ report_text (document_faults version d.trees) (length (kept_statements version d.trees)) (faulty version d.trees)

-- the bytes are the text of a document, which is restricted so
pub record AreRestricted (version : Version) (bytes : List ℕ) (r : Restriction) : Type 0 where
  pub document : Document
  pub text : AreTextOf bytes document
  pub restricted : IsRestricted version document r

-- the bytes are the text of a document, of which more names of a kind are kept than there may be
pub record KeepTooManyNames (version : Version) (bytes : List ℕ) : Type 0 where
  pub document : Document
  pub text : AreTextOf bytes document
  pub many : HaveTooManyNames (kept_statements version document.trees)

-- why bytes are not restricted: they are no document, or too many names are kept; a fault of a tree is no reason
abbrev pub IsNotRestricted : Version → DocumentFault → List ℕ → Type 0
IsNotRestricted version (Faults found) bytes = ⊥
IsNotRestricted version TooManyNames bytes = KeepTooManyNames version bytes
IsNotRestricted version fault bytes = Refuses version fault bytes
