-- What a classification of a document writes is accepted where the same document is checked, unless the check is stopped.
use Rattle.std.proofs.Common.{◌≡◌, ℕ, List, Some, Ok, Err, inl, inr, sym, subst}
use Rattle.axioms.specs.Ontology.{Ontology}
use Rattle.cert_check.specs.Acceptance.{IsAcceptable}
use Rattle.profile.proofs.Refused.{bytes_read_as_none}
use Rattle.profile.specs.Documents.{ReadsAs}
use Rattle.profile.specs.Faults.{Refuses, RefusesKnown}
use Rattle.profile.specs.declared.fault.DocumentFault.{DocumentFault}
use Rattle.profile.specs.declared.fault.DocumentFault.TheVariants as reading
use Rattle.program.specs.declared.version.Version.{Version}
use Rattle.telling.proofs.OneOntology.{in_second, one_ontology}
use Rattle.cli.specs.Theorems.{IsStop, ReadDocumentsAreNoStop, WhatIsWrittenIsAccepted}
use Rattle.receiving.specs.declared.fault.CheckFault.TheVariants.{Document, Memory, Io}

acceptable_there : (o p : Ontology) (t i c t' i' c' : List ℕ) → o ≡ p → t ≡ t' → i ≡ i' → c ≡ c' → IsAcceptable o t i c → IsAcceptable p t' i' c'
acceptable_there o p t i c t' i' c' same same_taxonomy same_instances same_certificate a =
    let of_taxonomy : List ℕ → Type 0 = λ text. IsAcceptable o text i c in
    let of_instances : List ℕ → Type 0 = λ text. IsAcceptable o t' text c in
    let of_certificate : List ℕ → Type 0 = IsAcceptable o t' i' in
    let of_ontology : Ontology → Type 0 = λ q. IsAcceptable q t' i' c' in
    subst of_ontology same (subst of_certificate same_certificate (subst of_instances same_instances (subst of_taxonomy same_taxonomy a)))

-- bytes that read as an ontology are not refused
pub not_refused : (version : Version) (bytes : List ℕ) (o : Ontology) (fault : DocumentFault) → ReadsAs version bytes o → (fault ≡ reading.Memory → ⊥) → Refuses version fault bytes → ⊥
not_refused version bytes o fault reads other refuses = bytes_read_as_none version bytes fault refuses other o reads

-- a fault by which a document is refused that was read in some version is one that stops its check
stops : (version : Version) (most : ℕ) (bytes : List ℕ) (fault : DocumentFault) → RefusesKnown version (Some bytes) most fault → IsStop version most bytes (Document fault)
stops version most bytes (reading.NotUtf8 at) refuses = bytes_read_as_none version bytes (reading.NotUtf8 at) refuses.0 (λ e. absurd (cc))
stops version most bytes reading.TooLarge refuses = refuses
stops version most bytes reading.Io refuses = tt
stops version most bytes (reading.Lex fault) refuses = bytes_read_as_none version bytes (reading.Lex fault) refuses.0 (λ e. absurd (cc))
stops version most bytes (reading.Parse fault) refuses = bytes_read_as_none version bytes (reading.Parse fault) refuses.0 (λ e. absurd (cc))
stops version most bytes (reading.Faults found) refuses = bytes_read_as_none version bytes (reading.Faults found) refuses.0 (λ e. absurd (cc))
stops version most bytes reading.TooManyNames refuses = bytes_read_as_none version bytes reading.TooManyNames refuses.0 (λ e. absurd (cc))
stops version most bytes reading.Memory refuses = tt

pub written_is_accepted : WhatIsWrittenIsAccepted
written_is_accepted written checked format most_written most facts bytes texts summary (Ok answer) w k =
    k.accepted.1 (acceptable_there w.ontology answer.ontology texts.taxonomy texts.instances texts.certificate k.taxonomy_text k.instances_text k.certificate_text
    (one_ontology written checked bytes w.ontology answer.ontology w.reads.0 k.reads.0) k.taxonomy_is k.instances_is k.certificate_is w.acceptable)
written_is_accepted written checked format most_written most facts bytes texts summary (Err (Document fault)) w k = stops checked most bytes fault k
written_is_accepted written checked format most_written most facts bytes texts summary (Err Memory) w k = tt
written_is_accepted written checked format most_written most facts bytes texts summary (Err (Io n)) w k = tt

-- what reads in a version reads in the same and in the second
pub read_documents_are_no_stop : ReadDocumentsAreNoStop
read_documents_are_no_stop written checked bytes o reads (inl same) none =
    let P : Version → Type 0 = λ v. ReadsAs v bytes o in
    none o (subst P (sym same) reads)
read_documents_are_no_stop written checked bytes o reads (inr second) none =
    let P : Version → Type 0 = λ v. ReadsAs v bytes o in
    none o (subst P (sym second) (in_second written bytes o reads))
