-- What a restriction of a document to the profile says.
use Rattle.std.specs.Prelude.{◌≡◌, ◌≤◌, ℕ, Bool, List, Option, Result, Ok, Err, length}
use Rattle.receiving.specs.Checks.{AreKnown}
use Rattle.receiving.specs.Lines.{AreAll}
use Rattle.restricting.specs.declared.fault.RestrictionFault.{RestrictionFault}
use Rattle.restricting.specs.declared.fault.RestrictionFault.TheVariants.{Document, Unwritten}
use Rattle.device.specs.Device.{IsLongerThan}
use Rattle.device.specs.declared.device.Sink.{Ghosts}
use Rattle.profile.specs.declared.fault.DocumentFault.{DocumentFault}
use Rattle.profile.specs.declared.fault.DocumentFault.TheVariants as reading
use Rattle.program.specs.declared.limits.Limits.{Limits}
use Rattle.program.specs.declared.version.Version.{Version}
use Rattle.telling.specs.Devices.{FailsIn, IsReadUntil, Takes, seen}
use Rattle.source_lines.specs.Sources.{IsReadToItsEnd, SourceState}
use Rattle.restricting.specs.Reports.{AreReported}
use Rattle.statements_text.specs.Restrictions.{IsNotRestricted}
use Rattle.statements_text.specs.declared.restriction.Restriction.{Restriction}

-- the source of the document has bytes, at most so many, that are the text of a document, which is restricted so, its faults reported by
-- lines or without
pub record IsRestrictedAs (lines : Bool) (version : Version) (most : ℕ) (document : Option (List ℕ)) (restriction : Restriction) : Type 0 where
  pub bytes : List ℕ
  pub bytes_are : AreKnown document bytes
  pub within : length bytes ≤ most
  pub are : AreReported lines version bytes restriction

-- why it is not restricted: it has more bytes than the limit, its source failed, memory was refused, or these are its bytes, and are no
-- document of which few enough names are kept. Faults of its trees are no reason
abbrev pub IsUnrestricted : Version → (most : ℕ) → (document : Option (List ℕ)) → (bytes : List ℕ) → DocumentFault → Type 0
IsUnrestricted version most document bytes reading.TooLarge = IsLongerThan document most
IsUnrestricted version most document bytes reading.Io = Unit {0}
IsUnrestricted version most document bytes reading.Memory = Unit {0}
IsUnrestricted version most document bytes fault = AreAll most document bytes × IsNotRestricted version fault bytes

-- what an answer says of the document and of what is written: what is kept of it, whole, or the beginning of it, where the sink failed; or
-- nothing
abbrev pub IsRestrictionAnswer : (lines : Bool) → Version → (most : ℕ) → (document : Option (List ℕ)) → (Whole Begun : List ℕ → Type 0) → (Nothing : Type 0) → Result Restriction RestrictionFault → Type 0
IsRestrictionAnswer lines version most document Whole Begun Nothing (Ok restriction) = IsRestrictedAs lines version most document restriction × Whole restriction.text.items
IsRestrictionAnswer lines version most document Whole Begun Nothing (Err Unwritten) =
    (restriction : Restriction) × IsRestrictedAs lines version most document restriction × Begun restriction.text.items
IsRestrictionAnswer lines version most document Whole Begun Nothing (Err (Document fault bytes)) = IsUnrestricted version most document bytes.items fault × Nothing

-- what an answer says of the document, and of the sink before and after a call
abbrev pub Restricts : {S : Type 0} → Ghosts S → (lines : Bool) → Limits → (document : Option (List ℕ)) → (old new : S) → Result Restriction RestrictionFault → Type 0
Restricts S lines limits document old new answer =
    IsRestrictionAnswer lines limits.version limits.max_bytes document (Takes (seen S old) (seen S new)) (FailsIn (seen S old) (seen S new)) (seen S new ≡ seen S old) answer

-- what was read of the document: all of it, where it is restricted; or until this fault
abbrev pub IsRestrictionRead : {X : Type 0} → Result X RestrictionFault → (old new : SourceState) → Type 0
IsRestrictionRead (Ok x) old new = IsReadToItsEnd old new
IsRestrictionRead (Err Unwritten) old new = IsReadToItsEnd old new
IsRestrictionRead (Err (Document fault bytes)) old new = IsReadUntil fault old new

-- the fault is that the document has more bytes than the limit
abbrev pub IsTooLarge : RestrictionFault → Type 0
IsTooLarge (Document fault bytes) = fault ≡ reading.TooLarge
IsTooLarge Unwritten = ⊥
