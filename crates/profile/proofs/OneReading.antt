-- Bytes are the text of at most one document, and read as at most one ontology.
use Rattle.std.proofs.Common.{◌≡◌, ℕ, List, sym, ap, ◌∙◌, subst}
use Rattle.axioms.proofs.Unique.{statements_determine}
use Rattle.axioms.specs.Numbering.{IsOntologyOf}
use Rattle.fs_lexer.proofs.Whole.{one_spelling}
use Rattle.fs_lexer.specs.Spelling.{Token}
use Rattle.fs_parser.proofs.Documents as parser
use Rattle.fs_parser.specs.Document.{Document, IsDocument}
use Rattle.shapes.specs.Faults.{document_faults}
use Rattle.profile.specs.Statements.{statements}
use Rattle.profile.specs.Documents.{AreTextOf}
use Rattle.profile.specs.DocumentTheorems.{BytesHaveOneFaultList, BytesReadAsOneOntology}

pub one_document : (bytes : List ℕ) (d e : Document) → AreTextOf bytes d → AreTextOf bytes e → d ≡ e
one_document bytes d e h k =
    let P : List Token → Type 0 = IsDocument d in
    parser.one_document k.tokens d e (subst P (one_spelling bytes h.tokens k.tokens h.spelled k.spelled) h.written) k.written

pub one_reading : BytesReadAsOneOntology
one_reading version bytes o p r s =
    let P : Document → Type 0 = λ d. IsOntologyOf (statements version d.trees) o in
    let same : r.document ≡ s.document = one_document bytes r.document s.document r.text s.text in
    statements_determine (statements version s.document.trees) o p r.well_formed s.well_formed (subst P same r.read.ontology) s.read.ontology

pub one_fault_list : BytesHaveOneFaultList
one_fault_list version bytes xs ys h k =
    let same : h.document ≡ k.document = one_document bytes h.document k.document h.text k.text in
    sym h.all ∙ ap (λ (d : Document). document_faults version d.trees) same ∙ k.all
