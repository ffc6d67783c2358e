-- What a run of the program `elcheck` does.
use Rattle.std.specs.Prelude.{ℕ, ◌≡◌, ◌⊎◌, Bool, List, false, true}
use Rattle.clap.specs.Words.{Text}
use Rattle.command_line.specs.CommandLine.{document_of}
use Rattle.command_line.specs.Receiver.{IsReceiverTaskOf, RefusesReceiver, command_of}
use Rattle.command_line.specs.declared.receiver.ReceiverTask.{ReceiverTask}
use Rattle.command_line.specs.declared.receiver.Request.{Request}
use Rattle.command_line.specs.declared.receiver.Request.TheVariants.{Check, Convert}
use Rattle.command_line.specs.declared.tasks.LineFault.{LineFault}
use Rattle.device.specs.declared.device.Sink as sinks
use Rattle.program.specs.declared.limits.Limits.{Limits}
use Rattle.receiving.specs.Files.{Store, store}
use Rattle.receiving.specs.Lines.{RunsByLines}
use Rattle.receiving.specs.Messages.{IsLineTold}
use Rattle.receiving.specs.Runs.{IsCheckRun, IsConvertRun}
use Rattle.system_files.specs.Contents.{Content}
use Rattle.system_files.specs.declared.files.Files as files
use Rattle.telling.specs.Printing.{BehindProgress, Output, outputs}

-- a run of what is asked for, within the limits
abbrev pub IsRequestRun : Request → Limits → Store → (content content' : Content) → (old new : Output) → (status : ℕ) → Type 0
IsRequestRun (Check paths) limits s content content' old new status = IsCheckRun paths limits.version limits.max_bytes s content old new status
IsRequestRun (Convert conversion) limits s content content' old new status = IsConvertRun conversion limits s content content' old new status

-- whether it is a conversion that is asked for
abbrev pub is_conversion : Request → Bool
is_conversion (Check paths) = false
is_conversion (Convert conversion) = true

-- a run of the task, behind its progress; where it tells lines the document is read before
abbrev pub IsTaskRun : ReceiverTask → Store → (content content' : Content) → (old new : Output) → (status : ℕ) → Type 0
IsTaskRun task s content content' old new status =
    RunsByLines task.lines (document_of (command_of task.request)) task.limits.version task.limits.max_bytes s content content' old new status
    (BehindProgress task.progress old (λ begun. IsRequestRun task.request task.limits s content content' begun new status))

-- a run of `elcheck`: of the task that the words ask for; or the words are no task, which is told
abbrev pub IsReceiverRun : List Text → Store → (content content' : Content) → (old new : Output) → (status : ℕ) → Type 0
IsReceiverRun words s content content' old new status =
    ((task : ReceiverTask) × IsReceiverTaskOf words task × IsTaskRun task s content content' old new status)
    ⊎ ((fault : LineFault) × RefusesReceiver words fault × (new.out ≡ old.out) × IsLineTold fault old.err new.err status)

-- such a run, by files and the two outputs before and after
abbrev pub Receives : {F In Out O E : Type 0} → files.Ghosts F In Out → sinks.Ghosts O → sinks.Ghosts E → List Text → (old new : F × O × E) → (status : ℕ) → Type 0
Receives F O E words old new status =
    IsReceiverRun words (store F old.0 new.0) (F.content old.0) (F.content new.0) (outputs O E old.1 old.2) (outputs O E new.1 new.2) status

-- a run of the task, and one of what it asks for behind its progress, by files and the two outputs before and after
abbrev pub ReceivesTask : {F In Out O E : Type 0} → files.Ghosts F In Out → sinks.Ghosts O → sinks.Ghosts E → ReceiverTask → (old new : F × O × E) → (status : ℕ) → Type 0
ReceivesTask F O E task old new status =
    IsTaskRun task (store F old.0 new.0) (F.content old.0) (F.content new.0) (outputs O E old.1 old.2) (outputs O E new.1 new.2) status

abbrev pub ReceivesRequest : {F In Out O E : Type 0} → files.Ghosts F In Out → sinks.Ghosts O → sinks.Ghosts E → ReceiverTask → (old new : F × O × E) → (status : ℕ) → Type 0
ReceivesRequest F O E task old new status =
    BehindProgress task.progress (outputs O E old.1 old.2)
    (λ begun. IsRequestRun task.request task.limits (store F old.0 new.0) (F.content old.0) (F.content new.0) begun (outputs O E new.1 new.2) status)
