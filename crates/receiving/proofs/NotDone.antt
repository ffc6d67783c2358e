-- A fault has another status than 0.
use Rattle.std.proofs.Common.{◌≡◌, ℕ, List, inl, inr}
use Rattle.telling.specs.Devices.{Device}
use Rattle.telling.specs.Printing.{IsPrinted, IsTold}
use Rattle.telling.specs.Messages.{out_of_memory}
use Rattle.profile.specs.Messages.{status_of}
use Rattle.program.specs.Status.{code_of}
use Rattle.program.specs.declared.status.Status.{Status}
use Rattle.program.specs.declared.status.Status.TheVariants as statuses
use Rattle.profile.specs.declared.fault.DocumentFault.{DocumentFault}
use Rattle.profile.specs.declared.fault.DocumentFault.TheVariants as reading

pub document_not_done : (fault : DocumentFault) → code_of statuses.Done ≡ code_of (status_of fault) → ⊥
document_not_done (reading.NotUtf8 at) e = cc
document_not_done reading.TooLarge e = cc
document_not_done reading.Io e = cc
document_not_done (reading.Lex fault) e = cc
document_not_done (reading.Parse fault) e = cc
document_not_done (reading.Faults found) e = cc
document_not_done reading.TooManyNames e = cc
document_not_done reading.Memory e = cc

pub printed_not_done : (old new : Device) (text : List ℕ) (status : Status) → (code_of statuses.Done ≡ code_of status → ⊥) → IsPrinted old new text status (code_of statuses.Done) → ⊥
printed_not_done old new text status other (inl whole) = other whole.1
printed_not_done old new text status other (inr failed) = let e = failed.1 in cc

pub told_not_done : (old new : Device) (IsText : List ℕ → Type 0) (status : Status) → (code_of statuses.Done ≡ code_of status → ⊥) → IsTold old new IsText status (code_of statuses.Done) → ⊥
told_not_done old new IsText status other (inl told) = printed_not_done old new told.0 status other told.2
told_not_done old new IsText status other (inr told) = printed_not_done old new out_of_memory statuses.Memory (λ e. cc) told
