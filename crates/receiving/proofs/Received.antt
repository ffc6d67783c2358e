-- Which run the words of `elcheck` ask for, and what it shows.
use Rattle.std.proofs.Common.{◌≡◌, ◌∙◌, ℕ, List, Bool, true, codes, refl, sym, ap, subst, inl, inr}
use Rattle.clap.specs.Words.{Row, Text, matches_of}
use Rattle.command_line.proofs.Numbers.{one_number}
use Rattle.command_line.specs.CommandLine.{IsTask, document_of}
use Rattle.command_line.specs.Receiver.{IsReceiverTaskOf, RefusesReceiver, asks_conversion, command_of, receiver_takes, ruled_words, rules, rules_name}
use Rattle.command_line.specs.declared.receiver.ReceiverTask.{ReceiverTask}
use Rattle.command_line.specs.declared.receiver.Request.{Request}
use Rattle.command_line.specs.declared.receiver.Request.TheVariants.{Check, Convert}
use Rattle.command_line.specs.declared.tasks.LineFault.{LineFault}
use Rattle.command_line.specs.declared.tasks.LineFault.TheVariants as line
use Rattle.command_line.specs.declared.tasks.Paths.{Paths}
use Rattle.program.specs.Status.{code_of}
use Rattle.program.specs.declared.limits.Limits.{Limits}
use Rattle.program.specs.declared.status.Status.TheVariants as statuses
use Rattle.program.specs.declared.version.Version.{Version}
use Rattle.receiving.proofs.FilesRight.{files_are_right}
use Rattle.receiving.proofs.ByLines.{by_same, over, ran}
use Rattle.receiving.proofs.NotDone.{told_not_done}
use Rattle.receiving.proofs.OneTask.{one_flag, one_version, same_paths}
use Rattle.receiving.specs.Files.{Store}
use Rattle.receiving.specs.Lines.{RunsByLines}
use Rattle.receiving.specs.Messages.{IsLineText, IsLineTold, line_status}
use Rattle.receiving.specs.Receiver.{IsRequestRun}
use Rattle.receiving.specs.Runs.{IsCheckRun}
use Rattle.receiving.specs.Theorems.{AreSamePaths, ReceivedFilesAreRight, WordsOfElcheckCheck}
use Rattle.system_files.specs.Contents.{Content}
use Rattle.telling.specs.Devices.{Device}
use Rattle.telling.specs.Printing.{BehindProgress, Output}
use Rattle.telling.specs.Progress.{IsProgress}

-- the rows ask for this, within these limits, by the rules of a conversion or of a check
abbrev Asks : (converts : Bool) → List Row → Request → Limits → (progress lines : Bool) → Type 0
Asks converts rows r limits progress lines = IsTask (rules_name converts) rows (record { command = command_of r; limits = limits; progress = progress; lines = lines })

-- what rows that ask for a check of these paths say of another request within limits, with its flags: it is that of a check of the same paths
pub record IsSameCheck (paths : Paths) (l : Limits) (p x : Bool) (r : Request) (m : Limits) (q y : Bool) : Type 0 where
  pub paths' : Paths
  pub request : r ≡ Check paths'
  pub same : AreSamePaths paths paths'
  pub bytes : m.max_bytes ≡ l.max_bytes
  pub version : m.version ≡ l.version
  pub progress : q ≡ p
  pub lines : y ≡ x

-- where rows ask for a check, they ask for no other one
one_check : (converts : Bool) (rows : List Row) (paths : Paths) (r : Request) (l m : Limits) (p q x y : Bool) → Asks converts rows (Check paths) l p x → Asks converts rows r m q y → IsSameCheck paths l p x r m q y
one_check converts rows paths (Check paths') l m p q x y is is' = record {
  paths' = paths';
  request = refl;
  same = same_paths rows paths paths' is.command.1 is'.command.1;
  bytes = one_number _ _ _ _ is'.limits.bytes.number is.limits.bytes.number;
  version = one_version _ _ _ is'.limits.version is.limits.version;
  progress = one_flag (codes "progress") rows q p is'.progress is.progress;
  lines = one_flag (codes "lines") rows y x is'.lines is.lines;
}
one_check converts rows paths (Convert conversion) l m p q x y is is' = let bad : codes "check" ≡ codes "convert" = sym is.command.0 ∙ is'.command.0 in absurd (cc)

abbrev IsSameTask : Paths → (task other : ReceiverTask) → Type 0
IsSameTask paths task other = IsSameCheck paths task.limits task.progress task.lines other.request other.limits other.progress other.lines

-- the words ask for no other check
same_task : (words : List Text) (task other : ReceiverTask) (paths : Paths) → IsReceiverTaskOf words task → task.request ≡ Check paths → IsReceiverTaskOf words other → IsSameTask paths task other
same_task words task other paths of is of' =
    let converts = asks_conversion words in
    let rows = matches_of (rules converts) (ruled_words converts words) in
    let A : Request → Type 0 = λ r. Asks converts rows r task.limits task.progress task.lines in
    one_check converts rows paths other.request task.limits other.limits task.progress other.progress task.lines other.lines (subst A is of) of'

-- the run of a check that the words ask for
abbrev IsAskedCheck : Paths → ReceiverTask → Store → Content → (old new : Output) → (status : ℕ) → Type 0
IsAskedCheck paths task s content old new status =
    BehindProgress task.progress old (λ begun. (paths' : Paths) × AreSamePaths paths paths' × IsCheckRun paths' task.limits.version task.limits.max_bytes s content begun new status)

asked_check : (task other : ReceiverTask) (paths : Paths) (s : Store) (content content' : Content) (old new : Output) (status : ℕ) → IsSameTask paths task other → BehindProgress other.progress old (λ begun. IsRequestRun other.request other.limits s content content' begun new status) → IsAskedCheck paths task s content old new status
asked_check task other paths s content content' old new status k behind =
    let begun = behind.begun in
    let R : Request → Type 0 = λ r. IsRequestRun r other.limits s content content' begun new status in
    let P : ℕ → Type 0 = λ most. IsCheckRun k.paths' other.limits.version most s content begun new status in
    let Q : Version → Type 0 = λ version. IsCheckRun k.paths' version task.limits.max_bytes s content begun new status in
    let T : Bool → Type 0 = λ told. IsProgress told old.err begun.err in
    record {
      begun = begun;
      unprinted = behind.unprinted;
      progress = subst T k.progress behind.progress;
      holds = (k.paths', k.same, subst Q k.version (subst P k.bytes (subst R k.request behind.holds)));
    }

-- what is asked for of the document at the path of the check
asked_by_lines : (task other : ReceiverTask) (paths : Paths) (s : Store) (content content' : Content) (old new : Output) (status : ℕ) (Run : Type 0) → IsSameTask paths task other → RunsByLines other.lines (document_of (command_of other.request)) other.limits.version other.limits.max_bytes s content content' old new status Run → RunsByLines task.lines paths.document.now task.limits.version task.limits.max_bytes s content content' old new status Run
asked_by_lines task other paths s content content' old new status Run k run =
    let path : document_of (command_of other.request) ≡ paths.document.now = ap (λ r. document_of (command_of r)) k.request ∙ sym k.same.document in
    by_same other.lines task.lines _ paths.document.now _ task.limits.version _ task.limits.max_bytes s content content' old new status Run k.lines path k.version k.bytes run

-- words that clap takes are refused only for want of memory, which is told
refused_told : (words : List Text) (task : ReceiverTask) (fault : LineFault) (old new : Device) (status : ℕ) → IsReceiverTaskOf words task → receiver_takes words ≡ true → RefusesReceiver words fault → IsLineTold fault old new status → IsLineTold line.Memory old new status
refused_told words task (line.Line error) old new status of taken refuses told = absurd (refuses taken task of)
refused_told words task line.Memory old new status of taken refuses told = told

pub words_check : WordsOfElcheckCheck
words_check words task paths s content content' old new status of is taken (inl run) =
    let other = run.0 in
    let k = same_task words task other paths of is run.1 in
    inl (over task.lines paths.document.now task.limits.version task.limits.max_bytes s content content' old new status
    (BehindProgress other.progress old (λ begun. IsRequestRun other.request other.limits s content content' begun new status)) (IsAskedCheck paths task s content old new status)
    (asked_check task other paths s content content' old new status k) (asked_by_lines task other paths s content content' old new status _ k run.2))
words_check words task paths s content content' old new status of is taken (inr run) = inr (run.2, refused_told words task run.0 old.err new.err status of taken run.1 run.3)

-- words that are no task have another status than 0
line_not_done : (fault : LineFault) → code_of statuses.Done ≡ code_of (line_status fault) → ⊥
line_not_done (line.Line error) e = cc
line_not_done line.Memory e = cc

pub received_right : ReceivedFilesAreRight
received_right words task paths s content content' old new document taxonomy instances certificate of is d t i c (inl run) =
    let other = run.0 in
    let behind = ran other.lines (document_of (command_of other.request)) other.limits.version other.limits.max_bytes s content content' old new _ run.2 in
    let k = asked_check task other paths s content content' old new (code_of statuses.Done) (same_task words task other paths of is run.1) behind in
    let check = k.holds in
    files_are_right check.0 task.limits.version task.limits.max_bytes s content k.begun new document taxonomy instances certificate
    (ap content (sym check.1.document) ∙ d) (ap content (sym check.1.taxonomy) ∙ t) (ap content (sym check.1.instances) ∙ i) (ap content (sym check.1.certificate) ∙ c) check.2
received_right words task paths s content content' old new document taxonomy instances certificate of is d t i c (inr run) =
    absurd (told_not_done old.err new.err (IsLineText run.0) (line_status run.0) (line_not_done run.0) run.3)
