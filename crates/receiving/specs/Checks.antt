-- What a check of the texts of a document says.
use Rattle.std.specs.Prelude.{◌≡◌, ◌≤◌, ◌↔◌, ◌⊎◌, ℕ, zero, suc, List, [], Option, Some, None, Result, Ok, Err}
use Rattle.axioms.specs.Ontology.{Ontology}
use Rattle.axioms.specs.WellFormedness.{IsOntology}
use Rattle.cert_check.specs.Acceptance.{AreRight, IsAcceptable}
use Rattle.cert_check.specs.SourceVerdicts.{IsBadText, IsVerdictWith}
use Rattle.cert_check.specs.Verdict.{HasTrueLines, IsVerdict, PassesLines}
use Rattle.cert_check.specs.declared.verdict.Verdict.{Verdict}
use Rattle.cert_check.specs.declared.verdict.Verdict.TheVariants.{Accepted}
use Rattle.certificate.specs.SourceReading.{StopsGoingOn}
use Rattle.telling.specs.Devices.{IsReadUntil}
use Rattle.source_lines.specs.Sources.{SourceState, source_state, Gives, IsReadOn, IsReadToItsEnd, FailsInReading}
use Rattle.receiving.specs.declared.checking.Checked.{Checked}
use Rattle.receiving.specs.declared.fault.CheckFault.{CheckFault}
use Rattle.receiving.specs.declared.fault.CheckFault.TheVariants.{Document, Memory, Io}
use Rattle.device.specs.declared.device.Source.{Ghosts}
use Rattle.profile.specs.Faults.{ReadsKnown, RefusesKnown}
use Rattle.program.specs.declared.version.Version.{Version}

-- the document, of at most so many bytes, reads in the version as some ontology
abbrev pub IsRead : Version → (most_bytes : ℕ) → (document : Option (List ℕ)) → Type 0
IsRead version bytes document = (o : Ontology) × ReadsKnown version document bytes o

-- the bytes are those of a source that tells its bytes
abbrev pub AreKnown : Option (List ℕ) → List ℕ → Type 0
AreKnown None bytes = Unit {0}
AreKnown (Some left) bytes = left ≡ bytes

-- the document reads in the version as this ontology, and the verdict is on the three texts and that ontology: they are accepted exactly
-- where they are acceptable, and then they say what follows from the axioms; lines that were passed are true
pub record IsChecked (version : Version) (most : ℕ) (document taxonomy instances certificate : Option (List ℕ)) (o : Ontology) (verdict : Verdict) : Type 0 where
  pub reads : ReadsKnown version document most o
  pub well_formed : IsOntology o
  pub taxonomy_text : List ℕ
  pub instances_text : List ℕ
  pub certificate_text : List ℕ
  pub taxonomy_is : AreKnown taxonomy taxonomy_text
  pub instances_is : AreKnown instances instances_text
  pub certificate_is : AreKnown certificate certificate_text
  pub judged : IsVerdict o taxonomy_text instances_text certificate_text verdict
  pub lines : PassesLines verdict → HasTrueLines o certificate_text
  pub accepted : (verdict ≡ Accepted) ↔ IsAcceptable o taxonomy_text instances_text certificate_text
  pub right : verdict ≡ Accepted → AreRight o taxonomy_text instances_text certificate_text

-- the verdict is on that ontology, the two texts and the certificate's
pub record IsCertificateJudged (o : Ontology) (taxonomy instances : List ℕ) (certificate : Option (List ℕ)) (verdict : Verdict) : Type 0 where
  pub certificate_text : List ℕ
  pub certificate_is : AreKnown certificate certificate_text
  pub judged : IsVerdictWith o taxonomy instances certificate_text verdict

-- what a fault says of the document: it is refused, or it is read and this came behind that. The sources of the texts are
-- numbered from 2
abbrev pub IsCheckFault : Version → (most : ℕ) → (document : Option (List ℕ)) → CheckFault → Type 0
IsCheckFault version most document (Document fault) = RefusesKnown version document most fault
IsCheckFault version most document Memory = IsRead version most document
IsCheckFault version most document (Io n) = (2 ≤ n) × (n ≤ 4) × IsRead version most document

-- what an answer says: the document reads as this ontology, and this is the verdict on it and the texts; or a fault
abbrev pub IsCheckAnswer : Version → (most : ℕ) → (document taxonomy instances certificate : Option (List ℕ)) → Result Checked CheckFault → Type 0
IsCheckAnswer version most document taxonomy instances certificate (Ok checked) = IsChecked version most document taxonomy instances certificate checked.ontology checked.verdict
IsCheckAnswer version most document taxonomy instances certificate (Err fault) = IsCheckFault version most document fault

-- ---- what was read

-- the sources of the three texts
pub record TextSources : Type 0 where
  pub taxonomy : SourceState
  pub instances : SourceState
  pub certificate : SourceState

-- what the words of their traits tell of the sources of the three texts
abbrev pub text_states : {T I C : Type 0} → Ghosts T → Ghosts I → Ghosts C → T × I × C → TextSources
text_states T I C three = record { taxonomy = source_state T three.0; instances = source_state I three.1; certificate = source_state C three.2 }

-- what was read of them where the answer is this fault. A source is named only where it failed; those before it were read to
-- their ends, and those behind it are not touched. Where memory was refused, none failed
abbrev pub AreTextsReadUntil : CheckFault → (old new : TextSources) → Type 0
AreTextsReadUntil (Document fault) old new = ⊥
AreTextsReadUntil Memory old new =
    IsReadOn old.taxonomy new.taxonomy × IsReadOn old.instances new.instances × IsReadOn old.certificate new.certificate
AreTextsReadUntil (Io (suc (suc zero))) old new =
    FailsInReading old.taxonomy new.taxonomy × (new.instances ≡ old.instances) × (new.certificate ≡ old.certificate)
AreTextsReadUntil (Io (suc (suc (suc zero)))) old new =
    IsReadToItsEnd old.taxonomy new.taxonomy × FailsInReading old.instances new.instances × (new.certificate ≡ old.certificate)
AreTextsReadUntil (Io (suc (suc (suc (suc zero))))) old new =
    IsReadToItsEnd old.taxonomy new.taxonomy × IsReadToItsEnd old.instances new.instances × FailsInReading old.certificate new.certificate
AreTextsReadUntil (Io n) old new = ⊥

-- the source gave some bytes, and no call of it failed
pub record IsBegun (old new : SourceState) : Type 0 where
  pub taken : List ℕ
  pub some : ¬ (taken ≡ [])
  pub given : Gives old new taken
  pub unfailed : new.failures ≡ old.failures

-- what was read of the certificate's source where this is the verdict: all; or some, where it is that the text is that of none
abbrev pub IsCertificateRead : Verdict → (old new : SourceState) → Type 0
IsCertificateRead verdict old new = IsReadToItsEnd old new ⊎ (IsBadText verdict × IsBegun old new)

-- what was read of the sources of the three texts: each to its end, but the certificate's maybe less where its text is that of none; or
-- until this fault
abbrev pub AreTextsRead : Result Verdict CheckFault → (old new : TextSources) → Type 0
AreTextsRead (Ok verdict) old new =
    IsReadToItsEnd old.taxonomy new.taxonomy × IsReadToItsEnd old.instances new.instances × IsCertificateRead verdict old.certificate new.certificate
AreTextsRead (Err fault) old new = AreTextsReadUntil fault old new

-- what was read of the sources of the first two texts: each to its end; or until this fault, which is that one of them failed or memory was
-- refused
abbrev pub AreTwoTextsRead : {X : Type 0} → Result X CheckFault → (old new : SourceState × SourceState) → Type 0
AreTwoTextsRead (Ok x) old new = IsReadToItsEnd old.0 new.0 × IsReadToItsEnd old.1 new.1
AreTwoTextsRead (Err Memory) old new = IsReadOn old.0 new.0 × IsReadOn old.1 new.1
AreTwoTextsRead (Err (Io (suc (suc zero)))) old new = FailsInReading old.0 new.0 × (new.1 ≡ old.1)
AreTwoTextsRead (Err (Io (suc (suc (suc zero))))) old new = IsReadToItsEnd old.0 new.0 × FailsInReading old.1 new.1
AreTwoTextsRead (Err fault) old new = ⊥

-- the sources of the document and of the three texts
pub record Sources : Type 0 where
  pub document : SourceState
  pub texts : TextSources

-- what the words of their traits tell of the sources of the document and of the three texts
abbrev pub states : {D T I C : Type 0} → Ghosts D → Ghosts T → Ghosts I → Ghosts C → D × T × I × C → Sources
states D T I C four = record { document = source_state D four.0; texts = text_states T I C (four.1, four.2, four.3) }

-- what was read of the four: each to its end, but the certificate's maybe less, as above; or until this fault. The texts are not
-- touched where the document is at fault, and the document was read to its end where one of them is
abbrev pub AreRead : Result Checked CheckFault → (old new : Sources) → Type 0
AreRead (Ok checked) old new = IsReadToItsEnd old.document new.document × AreTextsRead (Ok checked.verdict) old.texts new.texts
AreRead (Err (Document fault)) old new = IsReadUntil fault old.document new.document × (new.texts ≡ old.texts)
AreRead (Err Memory) old new = IsReadToItsEnd old.document new.document × AreTextsReadUntil Memory old.texts new.texts
AreRead (Err (Io n)) old new = IsReadToItsEnd old.document new.document × AreTextsReadUntil (Io n) old.texts new.texts

-- what was read of the four sources, by what they tell before and after a call
abbrev pub Reads : {D T I C : Type 0} → Ghosts D → Ghosts T → Ghosts I → Ghosts C → (old new : D × T × I × C) → Result Checked CheckFault → Type 0
Reads D T I C old new answer = AreRead answer (states D T I C old) (states D T I C new)

-- what was read of the source of a text: all; or memory was refused; or the fault is the number of the source, and it failed
abbrev pub IsTextRead : {X : Type 0} → (number : ℕ) → Result X CheckFault → (old new : SourceState) → Type 0
IsTextRead number (Ok x) old new = IsReadToItsEnd old new
IsTextRead number (Err (Document fault)) old new = ⊥
IsTextRead number (Err Memory) old new = IsReadOn old new
IsTextRead number (Err (Io n)) old new = (n ≡ number) × FailsInReading old new

-- why there is no verdict on the text that the certificate's source gives: it failed, and every whole line that it gave can follow those
-- before it; or memory was refused
abbrev pub IsUnjudged : Ontology → (old new : SourceState) → CheckFault → Type 0
IsUnjudged o old new (Document fault) = ⊥
IsUnjudged o old new Memory = IsReadOn old new
IsUnjudged o old new (Io n) = (n ≡ 4) × StopsGoingOn o old new

-- the certificate's source failed: the document reads in the version as this ontology, and every whole line that the source gave can
-- follow those before it
pub record StopsInCertificate (version : Version) (most : ℕ) (document : Option (List ℕ)) (old new : SourceState) : Type 0 where
  pub ontology : Ontology
  pub reads : ReadsKnown version document most ontology
  pub well_formed : IsOntology ontology
  pub stops : StopsGoingOn ontology old new
