-- What a run of a program does as it is started.
use Rattle.std.specs.Prelude.{◌≡◌, ℕ, ◌⊎◌, List, codes, map, Result, Ok, Err, string_bytes}
use Rattle.std.specs.Global.{Global, Vec}
use Rattle.std.specs.declared.string.String.{String}
use Rattle.std.specs.IoError.{error_kind}
use Rattle.std.specs.declared.io.Error.{Error}
use Rattle.std.specs.declared.io.ErrorKind.{ErrorKind}
use Rattle.std.specs.declared.io.ErrorKind.TheVariants.{OutOfMemory}
use Rattle.clap.specs.Words.{Text}
use Rattle.device.specs.declared.device.Sink as sinks
use Rattle.program.specs.declared.status.Status.TheVariants as statuses
use Rattle.telling.specs.Devices.{Device, seen}
use Rattle.telling.specs.Messages.{out_of_memory}
use Rattle.telling.specs.Printing.{IsPrinted}

-- standard error says why there are no words: memory was refused for them, or they are no text
abbrev pub IsUnreadTold : ErrorKind → (old new : Device) → (status : ℕ) → Type 0
IsUnreadTold kind old new status =
    ((kind ≡ OutOfMemory) × IsPrinted old new out_of_memory statuses.Memory status)
    ⊎ (¬ (kind ≡ OutOfMemory) × IsPrinted old new (codes "the command line is no text\n") statuses.Usage status)

-- what a run by words is, of files and the two outputs before and after, with its status
abbrev pub RunBy : (F O E : Type 0) → Type 1
RunBy F O E = List Text → (old new : F × O × E) → (status : ℕ) → Type 0

-- the run that the words ask for; or there was no memory for their list, or no words, which is told, and nothing else is done
abbrev pub IsStarted : {F O E : Type 0} → sinks.Ghosts E → RunBy F O E → Result (Vec (String Global)) Error → (old new : F × O × E) → (status : ℕ) → Type 0
IsStarted E Run (Ok words) old new status =
    Run (map string_bytes words.items) old new status
    ⊎ ((new.0 ≡ old.0) × (new.1 ≡ old.1) × IsPrinted (seen E old.2) (seen E new.2) out_of_memory statuses.Memory status)
IsStarted E Run (Err fault) old new status = (new.0 ≡ old.0) × (new.1 ≡ old.1) × IsUnreadTold (error_kind fault) (seen E old.2) (seen E new.2) status

-- these words are those that a program was called with
abbrev pub AreWordsOf : Result (Vec (String Global)) Error → List Text → Type 0
AreWordsOf (Ok words) given = given ≡ map string_bytes words.items
AreWordsOf (Err fault) given = ⊥

-- there is a seed, and the program is started on the words; or there is none, which is told, and nothing else is done
abbrev pub StartsSeeded : {F O E S : Type 0} → sinks.Ghosts E → RunBy F O E → (seed : Result S Error) → Result (Vec (String Global)) Error → (old new : F × O × E) → (status : ℕ) → Type 0
StartsSeeded E Run (Ok seed) words old new status = IsStarted E Run words old new status
StartsSeeded E Run (Err fault) words old new status =
    (new.0 ≡ old.0) × (new.1 ≡ old.1) × IsPrinted (seen E old.2) (seen E new.2) (codes "cannot read random seed\n") statuses.File status

-- the program is started, and there is no run: there is no seed, there are no words, or no memory for their list, which is told
abbrev pub IsUnstartedTold : {E S : Type 0} → sinks.Ghosts E → (seed : Result S Error) → Result (Vec (String Global)) Error → (old new : E) → (status : ℕ) → Type 0
IsUnstartedTold E seed words old new status = StartsSeeded {F = Unit {0}} {O = Unit {0}} E (λ given before behind answered. ⊥) seed words (tt, tt, old) (tt, tt, new) status
