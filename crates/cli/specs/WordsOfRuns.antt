-- Which run of a command words of the program ask for.
use Rattle.std.specs.Prelude.{◌≡◌, ◌⊎◌, ℕ, List, [], ◌∷◌, codes, true}
use Rattle.std.specs.Borrow.{Bor}
use Rattle.clap.specs.Words.{Text, takes}
use Rattle.receiving.specs.Files.{Store}
use Rattle.telling.specs.Printing.{BehindProgress, IsAnswered, Output}
use Rattle.receiving.specs.Lines.{RunsByLines}
use Rattle.receiving.specs.Messages.{IsLineTold}
use Rattle.receiving.specs.Runs.{IsCheckRun, format_of}
use Rattle.cli.specs.Messages.{version_text}
use Rattle.cli.specs.Runs.{IsClassifyRun, IsInferRun, IsPerformed}
use Rattle.restricting.specs.Runs.{IsRestrictRun}
use Rattle.receiving.specs.Theorems.{AreSamePaths}
use Rattle.command_line.specs.CommandLine.{AskForVersion, IsTaskOf, elc_app}
use Rattle.command_line.specs.declared.tasks.Command.TheVariants.{Check, Classify, Infer, Restrict}
use Rattle.command_line.specs.declared.tasks.FormatNumber.{FormatNumber}
use Rattle.command_line.specs.declared.tasks.LineFault.TheVariants as line
use Rattle.command_line.specs.declared.tasks.Paths.{Paths}
use Rattle.command_line.specs.declared.tasks.Task.{Task}
use Rattle.program.specs.declared.limits.Limits.{Limits}
use Rattle.program.specs.declared.status.Status.TheVariants as statuses
use Rattle.system_files.specs.Contents.{Content}

-- a run of the program whose words ask for a check of these paths is a run of `check` on the same paths within the limits that the words
-- set, behind its progress, where they ask for lines only if the document is readable, and else that is told; or memory was refused for
-- reading the words
abbrev pub WordsOfCheckCheck : Type 0
WordsOfCheckCheck =
    (words : List Text) (task : Task) (paths : Paths) (s : Store) (content content' : Content) (old new : Output) (status : ℕ) →
    IsTaskOf words task → task.command ≡ Check paths → takes elc_app words ≡ true → IsPerformed words s content content' old new status →
    RunsByLines task.lines paths.document.now task.limits.version task.limits.max_bytes s content content' old new status
    (BehindProgress task.progress old (λ begun. (paths' : Paths) × AreSamePaths paths paths' × IsCheckRun paths' task.limits.version task.limits.max_bytes s content begun new status))
    ⊎ ((new.out ≡ old.out) × IsLineTold line.Memory old.err new.err status)

-- both are the same numbers and the same version
pub record AreSameLimits (l m : Limits) : Type 0 where
  pub bytes : l.max_bytes ≡ m.max_bytes
  pub facts : l.max_facts ≡ m.max_facts
  pub version : l.version ≡ m.version

-- and one whose words ask for a classification is a run of `classify`, in the format that the words set
abbrev pub WordsOfClassifyClassify : Type 0
WordsOfClassifyClassify =
    (words : List Text) (task : Task) (paths : Paths) (number : FormatNumber) (s : Store) (content content' : Content) (old new : Output) (status : ℕ) →
    IsTaskOf words task → task.command ≡ Classify paths number → takes elc_app words ≡ true → IsPerformed words s content content' old new status →
    RunsByLines task.lines paths.document.now task.limits.version task.limits.max_bytes s content content' old new status
    (BehindProgress task.progress old (λ begun. (paths' : Paths) × (limits : Limits) × AreSamePaths paths paths' × AreSameLimits limits task.limits × IsClassifyRun paths' (format_of number) limits s content content' begun new status))
    ⊎ ((new.out ≡ old.out) × IsLineTold line.Memory old.err new.err status)

-- and one whose words ask for a restriction of the document at the one path into the file at the other is a run of `restrict` on these, by
-- lines where the words ask for them
abbrev pub WordsOfRestrictRestrict : Type 0
WordsOfRestrictRestrict =
    (words : List Text) (task : Task) (document output : Bor (List ℕ)) (s : Store) (content content' : Content) (old new : Output) (status : ℕ) →
    IsTaskOf words task → task.command ≡ Restrict document output → takes elc_app words ≡ true → IsPerformed words s content content' old new status →
    BehindProgress task.progress old (λ begun. (limits : Limits) × AreSameLimits limits task.limits × IsRestrictRun task.lines document.now output.now limits s content content' begun new status)
    ⊎ ((new.out ≡ old.out) × IsLineTold line.Memory old.err new.err status)

-- and one whose words ask for what is inferred of the document at the one path, in the file at the other, is a run of `infer` on these
abbrev pub WordsOfInferInfer : Type 0
WordsOfInferInfer =
    (words : List Text) (task : Task) (document output : Bor (List ℕ)) (s : Store) (content content' : Content) (old new : Output) (status : ℕ) →
    IsTaskOf words task → task.command ≡ Infer document output → takes elc_app words ≡ true → IsPerformed words s content content' old new status →
    RunsByLines task.lines document.now task.limits.version task.limits.max_bytes s content content' old new status
    (BehindProgress task.progress old (λ begun. (limits : Limits) × AreSameLimits limits task.limits × IsInferRun document.now output.now limits s content content' begun new status))
    ⊎ ((new.out ≡ old.out) × IsLineTold line.Memory old.err new.err status)

-- and one whose words ask for the version prints it, and writes no file
abbrev pub WordsOfVersionTell : Type 0
WordsOfVersionTell =
    (words : List Text) (s : Store) (content content' : Content) (old new : Output) (status : ℕ) →
    AskForVersion words → IsPerformed words s content content' old new status →
    ((content' ≡ content) × IsAnswered old new version_text statuses.Done status)
    ⊎ ((new.out ≡ old.out) × IsLineTold line.Memory old.err new.err status)

-- the option alone asks for it
abbrev pub VersionIsAWord : Type 0
VersionIsAWord = AskForVersion (codes "elc" ∷ codes "--version" ∷ [])
