-- What is proved of classifications and checks together.
use Rattle.std.specs.Prelude.{◌≡◌, ◌<◌, ◌≤◌, ℕ, ◌⊎◌, List, [], Option, Result, Ok, Err, Some, true, codes, length}
use Rattle.axioms.specs.Ontology.{Ontology}
use Rattle.cert_check.specs.Acceptance.{IsAcceptable}
use Rattle.cert_check.specs.declared.verdict.Verdict.TheVariants.{Accepted}
use Rattle.certificate.specs.declared.format.Format.{Format}
use Rattle.classification.specs.Classifications.{AreCountsOf, IsWrittenIn}
use Rattle.classification.specs.declared.classification.Summary.{Summary}
use Rattle.command_line.specs.declared.tasks.Paths.{Paths}
use Rattle.receiving.specs.Checks.{IsCheckAnswer}
use Rattle.receiving.specs.Files.{Store}
use Rattle.cli.specs.HeldTexts.{AreApart}
use Rattle.receiving.specs.HeldTexts.{AreOtherFilesKept}
use Rattle.receiving.specs.Runs.{IsCheckRun}
use Rattle.cli.specs.Runs.{IsClassifyRun, IsInferRun}
use Rattle.telling.specs.Printing.{Output, IsAnswered, IsTold}
use Rattle.receiving.specs.Messages.{IsCheckText, check_status}
use Rattle.cli.specs.Messages.{summary_text}
use Rattle.cli.specs.Classifications.{IsClassification}
use Rattle.session.specs.Classifications.{IsClassified}
use Rattle.telling.specs.Devices.{Device, Takes}
use Rattle.session.specs.Inferences.{IsInferred}
use Rattle.session.specs.WrittenTexts.{Texts, AreWritten, Sinks}
use Rattle.receiving.specs.declared.checking.Checked.{Checked}
use Rattle.receiving.specs.declared.fault.CheckFault.{CheckFault}
use Rattle.receiving.specs.declared.fault.CheckFault.TheVariants.{Document, Memory, Io}
use Rattle.cli.specs.declared.fault.ClassifyFault.{ClassifyFault}
use Rattle.cli.specs.declared.fault.ClassifyFault.TheVariants as classifying
use Rattle.profile.specs.Documents.{ReadsAs}
use Rattle.profile.specs.Faults.{ReadAsNone}
use Rattle.profile.specs.declared.fault.DocumentFault.TheVariants as reading
use Rattle.engine.specs.Saturations.{HasMoreFactsThan}
use Rattle.program.specs.Status.{code_of}
use Rattle.program.specs.declared.limits.Limits.{Limits}
use Rattle.program.specs.declared.status.Status.TheVariants as statuses
use Rattle.program.specs.declared.version.Version.{Version}
use Rattle.program.specs.declared.version.Version.TheVariants.{Two}
use Rattle.system_files.specs.Contents.{Content}
use Rattle.receiving.specs.Theorems.{AreSamePaths}

-- a classification that is stopped by this fault says nothing of the document: memory was refused, or a device failed. Or the
-- closure of its ontology has more facts than the limit
abbrev pub StopsClassification : Ontology → (facts : ℕ) → ClassifyFault → Type 0
StopsClassification o facts (classifying.Document reading.Io) = Unit {0}
StopsClassification o facts (classifying.Document reading.Memory) = Unit {0}
StopsClassification o facts (classifying.Document fault) = ⊥
StopsClassification o facts classifying.Memory = Unit {0}
StopsClassification o facts classifying.Limit = HasMoreFactsThan o [] facts
StopsClassification o facts (classifying.Io n) = Unit {0}

-- the answer is the counts of the ontology, and acceptable texts of it are written, with a certificate in the format, unless the
-- classification is stopped
abbrev pub IsClassifiedUnlessStopped : Ontology → Format → (facts : ℕ) → (old new : Sinks) → Result Summary ClassifyFault → Type 0
IsClassifiedUnlessStopped o format facts old new (Ok summary) =
    AreCountsOf o summary × ((texts : Texts) × IsAcceptable o texts.taxonomy texts.instances texts.certificate × IsWrittenIn o format texts.certificate × AreWritten old new texts)
IsClassifiedUnlessStopped o format facts old new (Err fault) = StopsClassification o facts fault

-- whatever ontology the bytes of a document read as in a version, it is classified in that, in each format
abbrev pub EveryDocumentIsClassified : Type 0
EveryDocumentIsClassified =
    (version : Version) (format : Format) (most facts : ℕ) (bytes : List ℕ) (o : Ontology) (old new : Sinks) (answer : Result Summary ClassifyFault) →
    ReadsAs version bytes o → length bytes ≤ most → IsClassification version format most facts (Some bytes) old new answer →
    IsClassifiedUnlessStopped o format facts old new answer

-- a check that is stopped by this fault says nothing of the texts: memory was refused, a source failed, or the document has
-- more bytes than this checker reads, or reads as no ontology in its version
abbrev pub IsStop : Version → (most : ℕ) → (document : List ℕ) → CheckFault → Type 0
IsStop version most document (Document reading.TooLarge) = most < length document
IsStop version most document (Document reading.Io) = Unit {0}
IsStop version most document (Document reading.Memory) = Unit {0}
IsStop version most document (Document fault) = ReadAsNone version document
IsStop version most document Memory = Unit {0}
IsStop version most document (Io n) = Unit {0}

-- the answer of a check is that the texts are accepted, unless the check is stopped
abbrev pub AcceptsUnlessStopped : Version → (most : ℕ) → (document : List ℕ) → Result Checked CheckFault → Type 0
AcceptsUnlessStopped version most document (Ok checked) = checked.verdict ≡ Accepted
AcceptsUnlessStopped version most document (Err fault) = IsStop version most document fault

-- the texts that a classification of a document writes, in whatever format, are accepted where the same document is checked, in whatever
-- versions
abbrev pub WhatIsWrittenIsAccepted : Type 0
WhatIsWrittenIsAccepted =
    (written checked : Version) (format : Format) (most_written most_checked facts : ℕ) (bytes : List ℕ) (texts : Texts) (summary : Summary) (answer : Result Checked CheckFault) →
    IsClassified written format most_written facts (Some bytes) summary texts →
    IsCheckAnswer checked most_checked (Some bytes) (Some texts.taxonomy) (Some texts.instances) (Some texts.certificate) answer →
    AcceptsUnlessStopped checked most_checked bytes answer

-- a document that reads as an ontology in a version reads as one in the second, too: a check in either is not stopped for what it reads
-- as
abbrev pub ReadDocumentsAreNoStop : Type 0
ReadDocumentsAreNoStop =
    (written checked : Version) (bytes : List ℕ) (o : Ontology) → ReadsAs written bytes o → (checked ≡ written) ⊎ (checked ≡ Two) → ¬ ReadAsNone checked bytes

-- ---- written files are accepted

-- the document's path is none of the texts'
pub record IsDocumentApart (paths : Paths) : Type 0 where
  pub taxonomy : ¬ (paths.document.now ≡ paths.taxonomy.now)
  pub instances : ¬ (paths.document.now ≡ paths.instances.now)
  pub certificate : ¬ (paths.document.now ≡ paths.certificate.now)

abbrev pub accepted : List ℕ
accepted = codes "accepted\n"

-- `accepted` is printed, unless the check is stopped, which is told
abbrev pub IsAcceptedRun : Version → (most : ℕ) → (document : List ℕ) → (old new : Output) → (status : ℕ) → Type 0
IsAcceptedRun version most document old new status =
    IsAnswered old new accepted statuses.Done status
    ⊎ ((paths : Paths) × (fault : CheckFault) × IsStop version most document fault × (new.out ≡ old.out) × IsTold old.err new.err (IsCheckText paths most fault) (check_status fault) status)

-- after a run of `classify` with status 0, over files whose content is known, a run of `check` on the same four paths prints `accepted`.
-- Both are runs of a command within limits, whatever words asked for them
abbrev pub WrittenFilesAreAccepted : Type 0
WrittenFilesAreAccepted =
    (paths paths' : Paths) (format : Format) (limits : Limits) (version : Version) (most : ℕ) (s s' : Store) (content content' : Content) (old new old' new' : Output) (status : ℕ) (document : List ℕ) →
    AreSamePaths paths paths' → AreApart paths → IsDocumentApart paths → s.is_known ≡ true → content paths.document.now ≡ Some document →
    IsClassifyRun paths format limits s content content' old new (code_of statuses.Done) → IsCheckRun paths' version most s' content' old' new' status →
    IsAcceptedRun version most document old' new' status

-- ---- what is inferred

-- the one file held a document, of at most so many bytes, that reads in the version as an ontology whose closure has at most so many facts;
-- the other holds the text of what is inferred of it, which reads in each version as an ontology with its names whose axioms say the same;
-- and the line of its counts went out
pub record IsInferredInto (version : Version) (most facts : ℕ) (held held' : Option (List ℕ)) (old new : Device) : Type 0 where
  pub bytes : List ℕ
  pub held_is : held ≡ Some bytes
  pub within : length bytes ≤ most
  pub ontology : Ontology
  pub reads : ReadsAs version bytes ontology
  pub summary : Summary
  pub few : summary.facts ≤ facts
  pub text : List ℕ
  pub text_is : held' ≡ Some text
  pub inferred_is : IsInferred ontology summary text
  pub told : Takes old new (summary_text summary)

-- after a run of `infer` with status 0, over files whose content is known, that is what its two files hold and what standard output has
-- taken, and all other files hold what they did
abbrev pub InferredAxiomsSayTheSame : Type 0
InferredAxiomsSayTheSame =
    (document output : List ℕ) (limits : Limits) (s : Store) (content content' : Content) (old new : Output) →
    s.is_known ≡ true → IsInferRun document output limits s content content' old new (code_of statuses.Done) →
    IsInferredInto limits.version limits.max_bytes limits.max_facts (content document) (content' output) old.out new.out × AreOtherFilesKept output content content'
