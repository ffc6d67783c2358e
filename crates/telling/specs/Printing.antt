-- What standard output and standard error show.
use Rattle.std.specs.Prelude.{◌≡◌, ℕ, ◌⊎◌, List, Bool, Result, Ok, Err, string_bytes}
use Rattle.telling.specs.Devices.{Device, Takes, FailsIn, seen}
use Rattle.telling.specs.Progress.{IsProgress}
use Rattle.telling.specs.declared.messages.Message.{Message}
use Rattle.device.specs.declared.device.Sink.{Ghosts}
use Rattle.program.specs.Status.{code_of}
use Rattle.program.specs.declared.status.Status.{Status}
use Rattle.program.specs.declared.status.Status.TheVariants as statuses
use Rattle.telling.specs.Messages.{out_of_memory}

-- the text goes out, and the status is this; or the sink fails in it, and the status is that of a file
abbrev pub IsPrinted : (old new : Device) → (text : List ℕ) → (status : Status) → (answered : ℕ) → Type 0
IsPrinted old new text status answered = (Takes old new text × (answered ≡ code_of status)) ⊎ (FailsIn old new text × (answered ≡ code_of statuses.File))

-- standard output and standard error
pub record Output : Type 0 where
  pub out : Device
  pub err : Device

-- standard output and standard error, as what is seen of two sinks
abbrev pub outputs : {O E : Type 0} → Ghosts O → Ghosts E → O → E → Output
outputs O E out err = record { out = seen O out; err = seen E err }

-- the message goes out, or, where there was none, that there is no memory
abbrev pub IsToldMessage : {E : Type 0} → (old new : Device) → Result Message E → (answered : ℕ) → Type 0
IsToldMessage old new (Ok message) answered = IsPrinted old new (string_bytes message.text) message.status answered
IsToldMessage old new (Err error) answered = IsPrinted old new out_of_memory statuses.Memory answered

-- the answer goes to standard output, and standard error says nothing
abbrev pub IsAnswered : (old new : Output) → (text : List ℕ) → (status : Status) → (answered : ℕ) → Type 0
IsAnswered old new text status answered = IsPrinted old.out new.out text status answered × (new.err ≡ old.err)

-- a text of this kind goes to standard error; or there is no memory for it, and standard error says so
abbrev pub IsTold : (old new : Device) → (List ℕ → Type 0) → (status : Status) → (answered : ℕ) → Type 0
IsTold old new IsText status answered =
    ((text : List ℕ) × IsText text × IsPrinted old new text status answered) ⊎ IsPrinted old new out_of_memory statuses.Memory answered

-- where progress is told, lines of it go to standard error first; where it is not, nothing goes anywhere; and from there on this holds
pub record BehindProgress (told : Bool) (old : Output) (Holds : Output → Type 0) : Type 0 where
  pub begun : Output
  pub unprinted : begun.out ≡ old.out
  pub progress : IsProgress told old.err begun.err
  pub holds : Holds begun
