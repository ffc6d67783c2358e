-- What is refused reads as no ontology.
use Rattle.std.proofs.Common.{◌≡◌, ℕ, inl, inr, List, [], ◌∷◌, length, refl, sym, ap, ◌∙◌, subst, arith}
use Rattle.std.specs.List.{filter_map}
use Rattle.axioms.specs.Ontology.{Ontology}
use Rattle.axioms.specs.Numbering.{IsOntologyOf, Statement, class_name}
use Rattle.fs_lexer.proofs.Whole.{one_spelling}
use Rattle.fs_lexer.specs.Spelling.{Token}
use Rattle.fs_parser.specs.Document.{Document, IsDocument}
use Rattle.fs_parser.specs.declared.fault.ParseFault.{ParseFault}
use Rattle.profile.specs.Reading.{HasFewNames, HaveTooManyNames, class_names}
use Rattle.shapes.specs.Faults as shapes
use Rattle.shapes.specs.View.{faults_of}
use Rattle.program.specs.declared.version.Version.{Version}
use Rattle.shapes.specs.declared.fault.Fault.{Fault}
use Rattle.profile.specs.Statements.{statements}
use Rattle.profile.specs.declared.fault.DocumentFault.TheVariants as faults
use Rattle.profile.specs.Faults.{AreNoDocument, HaveFaults, ReadAsNone, StateTooManyNames}
use Rattle.profile.specs.DocumentTheorems.{RefusedBytesReadAsNone, RefusedSourcesReadAsNone}
use Rattle.profile.proofs.OneReading.{one_document}

no_document : (version : Version) (bytes : List ℕ) (fault : ParseFault) → AreNoDocument bytes fault → ReadAsNone version bytes
no_document version bytes fault h o r =
    let P : List Token → Type 0 = IsDocument r.document in
    h.none r.document (subst P (one_spelling bytes r.text.tokens h.tokens r.text.spelled h.spelled) r.text.written)

no_faults : (found : List Fault) → [] ≡ faults_of found → found ≡ []
no_faults [] e = refl
no_faults (f ∷ fs) e = cc

faulty : (version : Version) (bytes : List ℕ) (found : List Fault) → HaveFaults version bytes found → ReadAsNone version bytes
faulty version bytes found h o r =
    let same : r.document ≡ h.document = one_document bytes r.document h.document r.text h.text in
    h.some (no_faults found (sym r.read.faultless ∙ ap (λ (d : Document). shapes.document_faults version d.trees) same ∙ h.all))

-- an ontology has the names of its statements
class_names_are : (ss : List Statement) (o : Ontology) → IsOntologyOf ss o → o.names.classes ≡ class_names ss
class_names_are ss o h = h.classes ∙ ap (filter_map class_name) h.expressions

few_names : (ss : List Statement) (o : Ontology) → IsOntologyOf ss o → HasFewNames o → HaveTooManyNames ss → ⊥
few_names ss o h few (inl many) = omega (arith, many, few.classes, ap length (class_names_are ss o h))
few_names ss o h few (inr (inl many)) = omega (arith, many, few.properties, ap length h.properties)
few_names ss o h few (inr (inr many)) = omega (arith, many, few.individuals, ap length h.individuals)

too_many : (version : Version) (bytes : List ℕ) → StateTooManyNames version bytes → ReadAsNone version bytes
too_many version bytes h o r =
    let P : Document → Type 0 = λ d. IsOntologyOf (statements version d.trees) o in
    let same : r.document ≡ h.document = one_document bytes r.document h.document r.text h.text in
    few_names (statements version h.document.trees) o (subst P same r.read.ontology) r.read.few_names h.many

pub bytes_read_as_none : RefusedBytesReadAsNone
bytes_read_as_none version bytes (faults.NotUtf8 at) h not = λ o r. h.0 r.text.utf8
bytes_read_as_none version bytes (faults.Lex fault) h not = λ o r. h.none r.text.tokens r.text.spelled
bytes_read_as_none version bytes (faults.Parse fault) h not = no_document version bytes fault h
bytes_read_as_none version bytes (faults.Faults found) h not = faulty version bytes found.items h
bytes_read_as_none version bytes faults.TooManyNames h not = too_many version bytes h
bytes_read_as_none version bytes faults.Memory h not = absurd (not refl)
bytes_read_as_none version bytes faults.TooLarge h not = absurd h
bytes_read_as_none version bytes faults.Io h not = absurd h

pub sources_read_as_none : RefusedSourcesReadAsNone
sources_read_as_none version bytes most faults.TooLarge h memory io = λ o r. omega (arith, h, r.1)
sources_read_as_none version bytes most faults.Io h memory io = absurd (io refl)
sources_read_as_none version bytes most (faults.NotUtf8 at) h memory io = λ o r. bytes_read_as_none version bytes (faults.NotUtf8 at) h.0 memory o r.0
sources_read_as_none version bytes most (faults.Lex fault) h memory io = λ o r. bytes_read_as_none version bytes (faults.Lex fault) h.0 memory o r.0
sources_read_as_none version bytes most (faults.Parse fault) h memory io = λ o r. bytes_read_as_none version bytes (faults.Parse fault) h.0 memory o r.0
sources_read_as_none version bytes most (faults.Faults found) h memory io = λ o r. bytes_read_as_none version bytes (faults.Faults found) h.0 memory o r.0
sources_read_as_none version bytes most faults.TooManyNames h memory io = λ o r. bytes_read_as_none version bytes faults.TooManyNames h.0 memory o r.0
sources_read_as_none version bytes most faults.Memory h memory io = absurd (memory refl)
