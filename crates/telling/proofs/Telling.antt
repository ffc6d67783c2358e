-- From a message that was told to what is said on the two outputs.
use Rattle.std.proofs.Common.{◌≡◌, ℕ, List, Bool, inl, inr, refl, subst, Result, Ok, Err, IfOk, string_bytes}
use Rattle.telling.specs.Devices.{Device}
use Rattle.telling.proofs.Told.{untold}
use Rattle.telling.specs.Printing.{BehindProgress, Output, IsPrinted, IsTold, IsToldMessage}
use Rattle.program.specs.declared.status.Status.{Status}
use Rattle.telling.specs.declared.messages.Message.{Message}

-- a message of this kind is told
pub told : {E : Type 0} (old new : Device) (message : Result Message E) (IsText : List ℕ → Type 0) (status : Status) (answered : ℕ) → IfOk message (λ m. IsText (string_bytes m.text) × (m.status ≡ status)) → IsToldMessage old new message answered → IsTold old new IsText status answered
told old new (Ok m) IsText status answered is said =
    let P : Status → Type 0 = λ s. IsPrinted old new (string_bytes m.text) s answered in
    inl (string_bytes m.text, is.0, subst P is.1 said)
told old new (Err e) IsText status answered is said = inr said

-- a message with this status is told
pub told_status : {E : Type 0} (old new : Device) (message : Result Message E) (status : Status) (answered : ℕ) → IfOk message (λ m. m.status ≡ status) → IsToldMessage old new message answered → IsTold old new (λ text. Unit {0}) status answered
told_status old new (Ok m) status answered is said =
    let P : Status → Type 0 = λ s. IsPrinted old new (string_bytes m.text) s answered in
    inl (string_bytes m.text, tt, subst P is said)
told_status old new (Err e) status answered is said = inr said

-- what holds from the start holds behind progress of which nothing is told
pub nothing_told : (told : Bool) (old : Output) (Holds : Output → Type 0) → Holds old → BehindProgress told old Holds
nothing_told told old Holds holds = record { begun = old; unprinted = refl; progress = untold told old.err; holds = holds }
