-- What a run of `restrict` does.
use Rattle.std.specs.Prelude.{◌≡◌, ℕ, List, Bool, true, false, Option, Result, Ok, Err, string_bytes}
use Rattle.device.specs.declared.device.Sink as sinks
use Rattle.profile.specs.Messages.{status_of}
use Rattle.profile.specs.declared.fault.DocumentFault.{DocumentFault}
use Rattle.profile.specs.declared.fault.DocumentFault.TheVariants.{Memory}
use Rattle.program.specs.declared.limits.Limits.{Limits}
use Rattle.program.specs.declared.status.Status.TheVariants as statuses
use Rattle.receiving.specs.Files.{BlamesFile, NoWriteFails, SomeWriteFails, Store, store}
use Rattle.receiving.specs.HeldTexts.{AreOtherFilesKept, Holds, HoldsPrefix, Stays}
use Rattle.receiving.specs.Places.{IsLinedText}
use Rattle.restricting.specs.Restrictions.{IsRestrictionAnswer}
use Rattle.restricting.specs.declared.fault.RestrictionFault.{RestrictionFault}
use Rattle.restricting.specs.declared.fault.RestrictionFault.TheVariants.{Document, Unwritten}
use Rattle.restricting.specs.declared.run.RestrictRun.{RestrictRun}
use Rattle.statements_text.specs.declared.restriction.Restriction.{Restriction}
use Rattle.system_files.specs.Contents.{Content, IsThere}
use Rattle.system_files.specs.declared.files.Files as files
use Rattle.telling.specs.Messages.{cannot_write, IsDocumentText}
use Rattle.telling.specs.Printing.{Output, IsAnswered, IsTold, outputs}

-- what an answer of a restriction says of the document's file, and of the writes that failed
abbrev pub RestrictsFile : {X : Type 0} → Store → Option (List ℕ) → Result X RestrictionFault → Type 0
RestrictsFile s held (Ok x) = IsThere s.is_known held × NoWriteFails s
RestrictsFile s held (Err (Document fault bytes)) = BlamesFile s.reads_fail s.is_known held fault × NoWriteFails s
RestrictsFile s held (Err Unwritten) = IsThere s.is_known held × SomeWriteFails s

-- what an answer says of the document, and of the file that is written
abbrev pub IsRestrictAnswer : (lines : Bool) → (document output : List ℕ) → Limits → (known : Bool) → (content content' : Content) → Result Restriction RestrictionFault → Type 0
IsRestrictAnswer lines document output limits known content content' answer =
    IsRestrictionAnswer lines limits.version limits.max_bytes (content document) (Holds known (content' output)) (HoldsPrefix known (content output) (content' output))
    (Stays known (content output) (content' output)) answer

-- the answer is that of a restriction in files, no other file is written, and a device is blamed only where it failed
pub record IsRestrictionMade (lines : Bool) (document output : List ℕ) (limits : Limits) (s : Store) (content content' : Content) (answer : Result Restriction RestrictionFault) : Type 0 where
  pub answered : IsRestrictAnswer lines document output limits s.is_known content content' answer
  pub blames : RestrictsFile s (content document) answer
  pub others : AreOtherFilesKept output content content'

-- the text is told of the fault of the document at the path, whose bytes are these, by line and column or without
abbrev pub IsTextBy : (lines : Bool) → (path : List ℕ) → (most : ℕ) → (bytes : List ℕ) → DocumentFault → List ℕ → Type 0
IsTextBy false path most bytes fault text = IsDocumentText path most fault text
IsTextBy true path most bytes fault text = IsLinedText path most bytes fault text

-- the fault is that memory was refused
abbrev pub IsOutOfMemory : RestrictionFault → Type 0
IsOutOfMemory (Document fault bytes) = fault ≡ Memory
IsOutOfMemory Unwritten = ⊥

-- the report is printed; or a fault is told
abbrev pub IsRestrictTold : (lines : Bool) → (document output : List ℕ) → (most : ℕ) → Result Restriction RestrictionFault → (old new : Output) → (status : ℕ) → Type 0
IsRestrictTold lines document output most (Ok restriction) old new status = IsAnswered old new (string_bytes restriction.report) statuses.Done status
IsRestrictTold lines document output most (Err (Document fault bytes)) old new status =
    (new.out ≡ old.out) × IsTold old.err new.err (IsTextBy lines document most bytes.items fault) (status_of fault) status
IsRestrictTold lines document output most (Err Unwritten) old new status = (new.out ≡ old.out) × IsTold old.err new.err (λ text. text ≡ cannot_write output) statuses.File status

-- a run of `restrict`
pub record IsRestrictRun (lines : Bool) (document output : List ℕ) (limits : Limits) (s : Store) (content content' : Content) (old new : Output) (status : ℕ) : Type 0 where
  pub answer : Result Restriction RestrictionFault
  pub made : IsRestrictionMade lines document output limits s content content' answer
  pub told : IsRestrictTold lines document output limits.max_bytes answer old new status

-- the same, by files and the two outputs before and after
abbrev pub RunsRestrict : {F In Out O E : Type 0} → files.Ghosts F In Out → sinks.Ghosts O → sinks.Ghosts E → RestrictRun → (old new : F × O × E) → (status : ℕ) → Type 0
RunsRestrict F O E run old new status =
    IsRestrictRun run.lines run.reading.path.now run.output.now run.reading.limits (store F old.0 new.0) (F.content old.0) (F.content new.0) (outputs O E old.1 old.2) (outputs O E new.1 new.2) status
