-- What is proved of checks.
use Rattle.std.specs.Prelude.{◌≡◌, ◌⊎◌, ℕ, List, Ok, Some, true}
use Rattle.axioms.specs.Ontology.{Ontology}
use Rattle.cert_check.specs.Acceptance.{AreRight, IsAcceptable}
use Rattle.cert_check.specs.declared.verdict.Verdict.TheVariants.{Accepted}
use Rattle.clap.specs.Words.{Text}
use Rattle.command_line.specs.Receiver.{IsReceiverTaskOf, receiver_takes}
use Rattle.command_line.specs.declared.receiver.ReceiverTask.{ReceiverTask}
use Rattle.command_line.specs.declared.receiver.Request.TheVariants.{Check}
use Rattle.command_line.specs.declared.tasks.LineFault.TheVariants as line
use Rattle.command_line.specs.declared.tasks.Paths.{Paths}
use Rattle.receiving.specs.Checks.{IsCheckAnswer}
use Rattle.receiving.specs.Files.{Store}
use Rattle.receiving.specs.Lines.{RunsByLines}
use Rattle.receiving.specs.Messages.{IsLineTold}
use Rattle.receiving.specs.Receiver.{IsReceiverRun}
use Rattle.receiving.specs.Runs.{IsCheckRun}
use Rattle.telling.specs.Printing.{BehindProgress, Output}
use Rattle.receiving.specs.declared.checking.Checked.{Checked}
use Rattle.profile.specs.Documents.{ReadsAs}
use Rattle.program.specs.Status.{code_of}
use Rattle.program.specs.declared.status.Status.TheVariants as statuses
use Rattle.program.specs.declared.version.Version.{Version}
use Rattle.system_files.specs.Contents.{Content}

-- the document reads in the version as this ontology, and in none as another; the taxonomy and the instances say what follows from its
-- axioms, as the certificate shows; and no other taxonomy and instances are acceptable for it
pub record AreRightFor (version : Version) (document taxonomy instances certificate : List ℕ) : Type 0 where
  pub ontology : Ontology
  pub reads : ReadsAs version document ontology
  pub only : (other : Version) (o : Ontology) → ReadsAs other document o → o ≡ ontology
  pub right : AreRight ontology taxonomy instances certificate
  pub determined : (others others' text : List ℕ) → IsAcceptable ontology others others' text → (others ≡ taxonomy) × (others' ≡ instances)

-- texts that a check of a document accepts, whoever made them, are right for it
abbrev pub AcceptedTextsAreRight : Type 0
AcceptedTextsAreRight =
    (version : Version) (most : ℕ) (document taxonomy instances certificate : List ℕ) (checked : Checked) →
    IsCheckAnswer version most (Some document) (Some taxonomy) (Some instances) (Some certificate) (Ok checked) → checked.verdict ≡ Accepted →
    AreRightFor version document taxonomy instances certificate

-- both name the same four paths
pub record AreSamePaths (p q : Paths) : Type 0 where
  pub document : p.document.now ≡ q.document.now
  pub taxonomy : p.taxonomy.now ≡ q.taxonomy.now
  pub instances : p.instances.now ≡ q.instances.now
  pub certificate : p.certificate.now ≡ q.certificate.now

-- texts in files that a run of `check` with status 0 accepts, whoever made them, are right for the document there
abbrev pub AcceptedFilesAreRight : Type 0
AcceptedFilesAreRight =
    (paths : Paths) (version : Version) (most : ℕ) (s : Store) (content : Content) (old new : Output) (document taxonomy instances certificate : List ℕ) →
    content paths.document.now ≡ Some document → content paths.taxonomy.now ≡ Some taxonomy → content paths.instances.now ≡ Some instances → content paths.certificate.now ≡ Some certificate →
    IsCheckRun paths version most s content old new (code_of statuses.Done) →
    AreRightFor version document taxonomy instances certificate

-- ---- runs of `elcheck`

-- a run of `elcheck` whose words ask for a check of these paths is a run of `check` on the same paths within the limits that the words
-- set, behind its progress, where they ask for lines only if the document is readable, and else that is told; or memory was refused for
-- reading the words
abbrev pub WordsOfElcheckCheck : Type 0
WordsOfElcheckCheck =
    (words : List Text) (task : ReceiverTask) (paths : Paths) (s : Store) (content content' : Content) (old new : Output) (status : ℕ) →
    IsReceiverTaskOf words task → task.request ≡ Check paths → receiver_takes words ≡ true → IsReceiverRun words s content content' old new status →
    RunsByLines task.lines paths.document.now task.limits.version task.limits.max_bytes s content content' old new status
    (BehindProgress task.progress old (λ begun. (paths' : Paths) × AreSamePaths paths paths' × IsCheckRun paths' task.limits.version task.limits.max_bytes s content begun new status))
    ⊎ ((new.out ≡ old.out) × IsLineTold line.Memory old.err new.err status)

-- texts in files that a run of `elcheck` with status 0 accepts, whoever made them, are right for the document there: its words ask for a
-- check of these paths
abbrev pub ReceivedFilesAreRight : Type 0
ReceivedFilesAreRight =
    (words : List Text) (task : ReceiverTask) (paths : Paths) (s : Store) (content content' : Content) (old new : Output) (document taxonomy instances certificate : List ℕ) →
    IsReceiverTaskOf words task → task.request ≡ Check paths →
    content paths.document.now ≡ Some document → content paths.taxonomy.now ≡ Some taxonomy → content paths.instances.now ≡ Some instances → content paths.certificate.now ≡ Some certificate →
    IsReceiverRun words s content content' old new (code_of statuses.Done) →
    AreRightFor task.limits.version document taxonomy instances certificate
