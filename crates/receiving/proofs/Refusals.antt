-- Documents that are read before a run.
use Rattle.std.proofs.Common.{◌<◌, ◌+◌, ◌≤◌, ℕ, List, Bool, Option, Some, None, Result, Ok, Err, ap, length, subst}
use Rattle.std.specs.Prelude.{IfErr, IfOk, IsErrOf}
use Rattle.std.specs.Global.{Vec}
use Rattle.std.specs.Io.KnownBytes.{Keeps}
use Rattle.device.specs.Device.{IsLongerThan}
use Rattle.profile.specs.declared.fault.DocumentFault.{DocumentFault}
use Rattle.profile.specs.declared.fault.DocumentFault.TheVariants as reading
use Rattle.receiving.proofs.Kept.{known_file}
use Rattle.receiving.proofs.ReadFiles.{IsOfFiles, read_blamed, read_there}
use Rattle.receiving.specs.Checks.{AreKnown}
use Rattle.receiving.specs.Files.{IsSourceOf}
use Rattle.receiving.specs.Lines.{IsFileRead, IsUnread}
use Rattle.source_lines.specs.Sources.{SourceState}
use Rattle.telling.specs.Devices.{IsReadIn}

-- what is longer in a source is in its file
longer_file : (held left : Option (List ℕ)) (most : ℕ) → Keeps held left → IsLongerThan left most → IsLongerThan held most
longer_file None left most kept longer = tt
longer_file (Some xs) None most kept longer = absurd kept
longer_file (Some xs) (Some ys) most kept longer = let P : List ℕ → Type 0 = λ bytes. most < length bytes in subst P kept longer

unread_file : (held left : Option (List ℕ)) (most : ℕ) (fault : DocumentFault) → Keeps held left → IsUnread most left fault → IsUnread most held fault
unread_file held left most reading.TooLarge kept is = longer_file held left most kept is
unread_file held left most reading.Io kept is = tt
unread_file held left most reading.Memory kept is = tt
unread_file held left most reading.TooManyNames kept is = absurd is
unread_file held left most (reading.NotUtf8 at) kept is = absurd is
unread_file held left most (reading.Lex fault) kept is = absurd is
unread_file held left most (reading.Parse fault) kept is = absurd is
unread_file held left most (reading.Faults found) kept is = absurd is

-- what is read of the source of a file is read of the file
pub file_read : (most : ℕ) (fails known : Bool) (held : Option (List ℕ)) (old new : SourceState) (answer : Result (Vec ℕ) DocumentFault) → IsSourceOf known held old → IsOfFiles fails known new → IfOk answer (λ v. AreKnown old.left v.items) → IfOk answer (λ v. length v.items ≤ most) → IfErr answer (IsUnread most old.left) → (IsErrOf answer reading.TooLarge → new.most + most < old.most) → IsReadIn answer old new → IsFileRead most fails known held answer
file_read most fails known held old new (Ok bytes) is of are within unread beyond read = (record { are = known_file held old.left bytes.items is.left are; within = within }, read_there known held old new is read)
file_read most fails known held old new (Err fault) is of are within unread beyond read =
    (unread_file held old.left most fault is.left unread, read_blamed fails known held fault most old new is of read (λ same. beyond (ap Err same)))
