-- What a run of a check or a conversion does.
use Rattle.std.specs.Prelude.{◌≡◌, ℕ, List, Bool, Result, Ok, Err, ◌++◌, codes}
use Rattle.certificate.specs.declared.format.Format.{Format}
use Rattle.certificate.specs.declared.format.Format.TheVariants.{One, Two}
use Rattle.command_line.specs.declared.tasks.Conversion.{Conversion}
use Rattle.command_line.specs.declared.tasks.FormatNumber.{FormatNumber}
use Rattle.command_line.specs.declared.tasks.FormatNumber.TheVariants as numbers
use Rattle.command_line.specs.declared.tasks.Paths.{Paths}
use Rattle.certificate_text.specs.declared.conversion.ConvertFault.{ConvertFault}
use Rattle.certificate_text.specs.declared.conversion.ConvertFault.TheVariants as converting
use Rattle.receiving.specs.Checks.{IsCheckAnswer}
use Rattle.receiving.specs.Conversions.{IsConversionAnswer}
use Rattle.receiving.specs.declared.fault.ConversionFault.{ConversionFault}
use Rattle.receiving.specs.declared.fault.ConversionFault.TheVariants.{Certificate, Document, Unread}
use Rattle.profile.specs.Messages.{status_of}
use Rattle.program.specs.Status.{code_of}
use Rattle.std.specs.Fmt.{decimal}
use Rattle.receiving.specs.Files.{ChecksFiles, ConvertsFiles, Store, store}
use Rattle.telling.specs.Printing.{BehindProgress, Output, IsAnswered, IsPrinted, IsTold, outputs}
use Rattle.telling.specs.Messages.{cannot_write, out_of_memory, IsDocumentText, cannot_read}
use Rattle.receiving.specs.Messages.{rejected_text, unconverted_text, verdict_text, verdict_status, IsCheckText, check_status}
use Rattle.receiving.specs.HeldTexts.{AreOtherFilesKept, Holds, HoldsPrefix, Stays}
use Rattle.receiving.specs.declared.asked.CheckRun.{CheckRun}
use Rattle.receiving.specs.declared.asked.ConversionRun.{ConversionRun}
use Rattle.receiving.specs.declared.checking.Checked.{Checked}
use Rattle.receiving.specs.declared.fault.CheckFault.{CheckFault}
use Rattle.program.specs.declared.limits.Limits.{Limits}
use Rattle.program.specs.declared.status.Status.TheVariants as statuses
use Rattle.program.specs.declared.version.Version.{Version}
use Rattle.device.specs.declared.device.Sink as sinks
use Rattle.system_files.specs.Contents.{Content}
use Rattle.system_files.specs.declared.files.Files as files

-- the format of that number
abbrev pub format_of : FormatNumber → Format
format_of numbers.One = One
format_of numbers.Two = Two

-- what an answer says of a check of files: the verdict on them; or why there is none
abbrev pub IsCheckedFiles : Paths → Version → (bytes : ℕ) → Content → Result Checked CheckFault → Type 0
IsCheckedFiles paths version bytes content answer =
    IsCheckAnswer version bytes (content paths.document.now) (content paths.taxonomy.now) (content paths.instances.now) (content paths.certificate.now) answer

-- the verdict is printed; or a fault is told
abbrev pub IsCheckTold : Paths → (bytes : ℕ) → Result Checked CheckFault → (old new : Output) → (status : ℕ) → Type 0
IsCheckTold paths bytes (Ok checked) old new status = IsAnswered old new (verdict_text checked.ontology checked.verdict) (verdict_status checked.verdict) status
IsCheckTold paths bytes (Err fault) old new status = (new.out ≡ old.out) × IsTold old.err new.err (IsCheckText paths bytes fault) (check_status fault) status

-- a run of `check`
pub record IsCheckRun (paths : Paths) (version : Version) (bytes : ℕ) (s : Store) (content : Content) (old new : Output) (status : ℕ) : Type 0 where
  pub answer : Result Checked CheckFault
  pub checked : IsCheckedFiles paths version bytes content answer
  pub blames : ChecksFiles s.reads_fail s.is_known content paths answer
  pub told : IsCheckTold paths bytes answer old new status

-- what an answer says of the document, of the certificate's text, and of the file that is written
abbrev pub IsConvertAnswer : {X : Type 0} → Conversion → Limits → (known : Bool) → (content content' : Content) → Result X ConversionFault → Type 0
IsConvertAnswer c limits known content content' answer =
    IsConversionAnswer limits.version limits.max_bytes (format_of c.format) (content c.document.now) (content c.certificate.now)
    (Holds known (content' c.output.now)) (HoldsPrefix known (content c.output.now) (content' c.output.now)) (Stays known (content c.output.now) (content' c.output.now)) answer

-- the answer is that of a conversion of files, no other file is written, and a device is blamed only where it failed
pub record IsConversionMade {X : Type 0} (c : Conversion) (limits : Limits) (s : Store) (content content' : Content) (answer : Result X ConversionFault) : Type 0 where
  pub answered : IsConvertAnswer c limits s.is_known content content' answer
  pub blames : ConvertsFiles s content c answer
  pub others : AreOtherFilesKept c.output.now content content'

-- what is told of a certificate that is not converted
abbrev pub IsUnconvertedTold : (path : List ℕ) → ConvertFault → (old new : Output) → (status : ℕ) → Type 0
IsUnconvertedTold path (converting.BadText at) old new status = IsAnswered old new (rejected_text (codes "C1 at byte " ++ decimal at)) statuses.Rejected status
IsUnconvertedTold path (converting.LaterPremise line) old new status = IsAnswered old new (unconverted_text line) statuses.Rejected status
IsUnconvertedTold path converting.Io old new status = (new.out ≡ old.out) × IsTold old.err new.err (λ text. text ≡ cannot_write path) statuses.File status
IsUnconvertedTold path converting.Memory old new status = (new.out ≡ old.out) × IsPrinted old.err new.err out_of_memory statuses.Memory status

-- nothing is printed; or a fault is told
abbrev pub IsConvertTold : {X : Type 0} → Conversion → (bytes : ℕ) → Result X ConversionFault → (old new : Output) → (status : ℕ) → Type 0
IsConvertTold c bytes (Ok x) old new status = (new ≡ old) × (status ≡ code_of statuses.Done)
IsConvertTold c bytes (Err (Document fault)) old new status = (new.out ≡ old.out) × IsTold old.err new.err (IsDocumentText c.document.now bytes fault) (status_of fault) status
IsConvertTold c bytes (Err Unread) old new status = (new.out ≡ old.out) × IsTold old.err new.err (λ text. text ≡ cannot_read c.certificate.now) statuses.File status
IsConvertTold c bytes (Err (Certificate fault)) old new status = IsUnconvertedTold c.output.now fault old new status

-- a run of `convert`
pub record IsConvertRun (c : Conversion) (limits : Limits) (s : Store) (content content' : Content) (old new : Output) (status : ℕ) : Type 0 where
  pub answer : Result (Unit {0}) ConversionFault
  pub made : IsConversionMade c limits s content content' answer
  pub told : IsConvertTold c limits.max_bytes answer old new status

-- ---- runs, by files and the two outputs before and after

-- a run of `check` behind its progress
abbrev pub RunsCheck : {F In Out O E : Type 0} → files.Ghosts F In Out → sinks.Ghosts O → sinks.Ghosts E → CheckRun → (old new : F × O × E) → (status : ℕ) → Type 0
RunsCheck F O E run old new status =
    BehindProgress run.progress (outputs O E old.1 old.2)
    (λ begun. IsCheckRun run.paths run.limits.version run.limits.max_bytes (store F old.0 new.0) (F.content old.0) begun (outputs O E new.1 new.2) status)

-- a run of `convert`
abbrev pub RunsConversion : {F In Out O E : Type 0} → files.Ghosts F In Out → sinks.Ghosts O → sinks.Ghosts E → ConversionRun → (old new : F × O × E) → (status : ℕ) → Type 0
RunsConversion F O E run old new status =
    IsConvertRun run.conversion run.limits (store F old.0 new.0) (F.content old.0) (F.content new.0) (outputs O E old.1 old.2) (outputs O E new.1 new.2) status
