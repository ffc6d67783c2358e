-- Runs that tell faults of their document with lines and columns: the document is read first.
use Rattle.std.specs.Prelude.{◌≡◌, ◌≤◌, ◌⊎◌, ℕ, Bool, true, false, List, Option, Result, Ok, Err, length}
use Rattle.std.specs.Global.{Vec}
use Rattle.axioms.specs.Ontology.{Ontology}
use Rattle.device.specs.Device.{IsLongerThan}
use Rattle.profile.specs.Documents.{ReadsAs}
use Rattle.profile.specs.Faults.{Refuses}
use Rattle.profile.specs.Messages.{status_of}
use Rattle.profile.specs.declared.fault.DocumentFault.{DocumentFault}
use Rattle.profile.specs.declared.fault.DocumentFault.TheVariants.{Io, Memory, TooLarge}
use Rattle.program.specs.declared.version.Version.{Version}
use Rattle.receiving.specs.Checks.{AreKnown}
use Rattle.receiving.specs.Files.{BlamesFile, NoWriteFails, Store}
use Rattle.receiving.specs.Places.{IsLinedText}
use Rattle.receiving.specs.declared.lines.Refusal.{Refusal}
use Rattle.system_files.specs.Contents.{Content, IsThere}
use Rattle.telling.specs.Devices.{Device}
use Rattle.telling.specs.Printing.{IsTold, Output}

-- these bytes, which are at most so many, are all that the file holds
pub record AreAll (most : ℕ) (held : Option (List ℕ)) (bytes : List ℕ) : Type 0 where
  pub are : AreKnown held bytes
  pub within : length bytes ≤ most

-- the file holds bytes that read in the version as an ontology
pub record IsReadable (version : Version) (most : ℕ) (held : Option (List ℕ)) : Type 0 where
  pub bytes : List ℕ
  pub all : AreAll most held bytes
  pub ontology : Ontology
  pub reads : ReadsAs version bytes ontology

-- why the bytes that a source has left, or a file holds, are not all read: they are too many, it failed, or memory was refused
abbrev pub IsUnread : (most : ℕ) → Option (List ℕ) → DocumentFault → Type 0
IsUnread most left TooLarge = IsLongerThan left most
IsUnread most left Io = Unit {0}
IsUnread most left Memory = Unit {0}
IsUnread most left fault = ⊥

-- all the bytes of the file are read, which is there; or why not
abbrev pub IsFileRead : (most : ℕ) → (fails known : Bool) → (held : Option (List ℕ)) → Result (Vec ℕ) DocumentFault → Type 0
IsFileRead most fails known held (Ok bytes) = AreAll most held bytes.items × IsThere known held
IsFileRead most fails known held (Err fault) = IsUnread most held fault × BlamesFile fails known held fault

-- the fault is one of the bytes that the file holds; or they are too many, are not all read, or memory was refused
abbrev pub IsFaultIn : Version → (most : ℕ) → (held : Option (List ℕ)) → (bytes : List ℕ) → DocumentFault → Type 0
IsFaultIn version most held bytes TooLarge = IsLongerThan held most
IsFaultIn version most held bytes Io = Unit {0}
IsFaultIn version most held bytes Memory = Unit {0}
IsFaultIn version most held bytes fault = AreAll most held bytes × Refuses version fault bytes

-- the file reads as an ontology; or it is refused
abbrev pub IsReadOrRefused : {X : Type 0} → Version → (most : ℕ) → (fails known : Bool) → (held : Option (List ℕ)) → Result X Refusal → Type 0
IsReadOrRefused version most fails known held (Ok x) = IsReadable version most held
IsReadOrRefused version most fails known held (Err refusal) = IsFaultIn version most held refusal.bytes.items refusal.fault × BlamesFile fails known held refusal.fault

-- it is told why the document at the path does not read as an ontology, each fault with its line and its column in the bytes of the document
pub record IsLinedTold (path : List ℕ) (version : Version) (most : ℕ) (fails known : Bool) (held : Option (List ℕ)) (old new : Device) (status : ℕ) : Type 0 where
  pub fault : DocumentFault
  pub bytes : List ℕ
  pub faulty : IsFaultIn version most held bytes fault
  pub blames : BlamesFile fails known held fault
  pub told : IsTold old new (IsLinedText path most bytes fault) (status_of fault) status

-- that is all that is done
pub record IsLinedRefusal (path : List ℕ) (version : Version) (most : ℕ) (s : Store) (content content' : Content) (old new : Output) (status : ℕ) : Type 0 where
  pub told : IsLinedTold path version most s.reads_fail s.is_known (content path) old.err new.err status
  pub unprinted : new.out ≡ old.out
  pub kept : content' ≡ content
  pub unfailed : NoWriteFails s

-- a run over the document at the path. Where lines are asked for the document reads as an ontology, or else it is told why not, and there is
-- no run
abbrev pub RunsByLines : (lines : Bool) → (path : List ℕ) → Version → (most : ℕ) → Store → (content content' : Content) → (old new : Output) → (status : ℕ) → (Run : Type 0) → Type 0
RunsByLines false path version most s content content' old new status Run = Run
RunsByLines true path version most s content content' old new status Run =
    IsLinedRefusal path version most s content content' old new status ⊎ (IsReadable version most (content path) × Run)
