-- What is seen of the files of a run, and which of them the answers of its calls blame.
use Rattle.std.specs.Prelude.{◌≡◌, ℕ, zero, suc, List, Bool, false, Option, Result, Ok, Err}
use Rattle.std.specs.Io.KnownBytes.{Keeps}
use Rattle.certificate_text.specs.declared.conversion.ConvertFault.{ConvertFault}
use Rattle.certificate_text.specs.declared.conversion.ConvertFault.TheVariants as converting
use Rattle.command_line.specs.declared.tasks.Conversion.{Conversion}
use Rattle.command_line.specs.declared.tasks.Paths.{Paths}
use Rattle.receiving.specs.Messages.{read_path}
use Rattle.receiving.specs.declared.fault.CheckFault.{CheckFault}
use Rattle.receiving.specs.declared.fault.CheckFault.TheVariants as checking
use Rattle.receiving.specs.declared.fault.ConversionFault.{ConversionFault}
use Rattle.receiving.specs.declared.fault.ConversionFault.TheVariants.{Certificate, Document, Unread}
use Rattle.device.specs.Device.{HasFailed}
use Rattle.profile.specs.declared.fault.DocumentFault.{DocumentFault}
use Rattle.profile.specs.declared.fault.DocumentFault.TheVariants.{Io, Memory}
use Rattle.source_lines.specs.Sources.{SourceState}
use Rattle.system_files.specs.Contents.{Content, GivesAll, IsMissing, IsStuck, IsThere}
use Rattle.system_files.specs.declared.files.Files.{Ghosts}

-- whether it is known what the files hold, whether a read can fail of one that is there, and how many writes had failed before
-- the run and behind it
pub record Store : Type 0 where
  pub is_known : Bool
  pub reads_fail : Bool
  pub failed_before : ℕ
  pub failed_behind : ℕ

-- what the words of their trait tell of the files, before a run and behind it
abbrev pub store : {F In Out : Type 0} → Ghosts F In Out → (old new : F) → Store
store F old new = record { is_known = F.is_known old; reads_fail = F.reads_fail; failed_before = F.failed_writes old; failed_behind = F.failed_writes new }

-- no write failed in the run
abbrev pub NoWriteFails : Store → Type 0
NoWriteFails s = s.failed_behind ≡ s.failed_before

-- a write failed in the run
abbrev pub SomeWriteFails : Store → Type 0
SomeWriteFails s = HasFailed s.failed_before s.failed_behind

-- a source of a file that holds this, of which nothing is read: all of it is left and can be read; or it is missing, and each read fails
pub record IsSourceOf (known : Bool) (held : Option (List ℕ)) (s : SourceState) : Type 0 where
  pub left : Keeps held s.left
  pub most : GivesAll held s.most
  pub missing : IsMissing known held → IsStuck s.left s.most
  pub failures : s.failures ≡ 0

-- a read failed of the file that holds this: where no read fails of a file that is there, it is missing
abbrev pub IsUnreadable : (fails known : Bool) → Option (List ℕ) → Type 0
IsUnreadable fails known held = fails ≡ false → IsMissing known held

-- what a fault of a document says of its file: that it was not read only where a read failed, and all else of a file that is there
abbrev pub BlamesFile : (fails known : Bool) → Option (List ℕ) → DocumentFault → Type 0
BlamesFile fails known held Io = IsUnreadable fails known held
BlamesFile fails known held Memory = Unit {0}
BlamesFile fails known held fault = IsThere known held

-- the files of the three texts are there
pub record AreTextsThere (known : Bool) (content : Content) (paths : Paths) : Type 0 where
  pub taxonomy : IsThere known (content paths.taxonomy.now)
  pub instances : IsThere known (content paths.instances.now)
  pub certificate : IsThere known (content paths.certificate.now)

-- the files of the texts whose numbers, from 2, are below this are there
abbrev pub AreThereBefore : ℕ → (known : Bool) → Content → Paths → Type 0
AreThereBefore (suc (suc (suc zero))) known content paths = IsThere known (content paths.taxonomy.now)
AreThereBefore (suc (suc (suc (suc zero)))) known content paths = IsThere known (content paths.taxonomy.now) × IsThere known (content paths.instances.now)
AreThereBefore n known content paths = Unit {0}

-- what an answer of a check says of the four files: that they are there; or, where one was not read, that those before it are
abbrev pub ChecksFiles : {X : Type 0} → (fails known : Bool) → Content → Paths → Result X CheckFault → Type 0
ChecksFiles fails known content paths (Ok x) = IsThere known (content paths.document.now) × AreTextsThere known content paths
ChecksFiles fails known content paths (Err (checking.Document fault)) = BlamesFile fails known (content paths.document.now) fault
ChecksFiles fails known content paths (Err checking.Memory) = IsThere known (content paths.document.now)
ChecksFiles fails known content paths (Err (checking.Io n)) =
    IsThere known (content paths.document.now) × AreThereBefore n known content paths × IsUnreadable fails known (content (read_path paths n))

-- what a fault of a certificate's text says of the writes: that one failed only where that is the fault
abbrev pub BlamesWrites : Store → ConvertFault → Type 0
BlamesWrites s converting.Io = SomeWriteFails s
BlamesWrites s fault = NoWriteFails s

-- the files of the document and of the certificate are there
abbrev pub AreBothThere : (known : Bool) → Content → Conversion → Type 0
AreBothThere known content c = IsThere known (content c.document.now) × IsThere known (content c.certificate.now)

-- what an answer of a conversion says of the files that are read, and of the writes that failed
abbrev pub ConvertsFiles : {X : Type 0} → Store → Content → Conversion → Result X ConversionFault → Type 0
ConvertsFiles s content c (Ok x) = AreBothThere s.is_known content c × NoWriteFails s
ConvertsFiles s content c (Err (Document fault)) = BlamesFile s.reads_fail s.is_known (content c.document.now) fault × NoWriteFails s
ConvertsFiles s content c (Err Unread) =
    IsThere s.is_known (content c.document.now) × IsUnreadable s.reads_fail s.is_known (content c.certificate.now) × NoWriteFails s
ConvertsFiles s content c (Err (Certificate converting.Memory)) = IsThere s.is_known (content c.document.now) × NoWriteFails s
ConvertsFiles s content c (Err (Certificate fault)) = AreBothThere s.is_known content c × BlamesWrites s fault
