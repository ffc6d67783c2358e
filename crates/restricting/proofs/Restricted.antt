-- What a restriction writes, and what its files hold then.
use Rattle.std.proofs.Common.{◌≡◌, ◌∙◌, ◌+◌, ◌<◌, ◌≤◌, ℕ, List, Bool, Option, Some, None, Result, Ok, Err, ap, length, subst, sym}
use Rattle.std.specs.Prelude.{IfErr}
use Rattle.std.specs.Global.{Vec}
use Rattle.std.specs.Io.KnownBytes.{Keeps}
use Rattle.receiving.proofs.Counted.{IsCounted, some_failed}
use Rattle.receiving.proofs.Kept.{known_file}
use Rattle.receiving.proofs.ReadFiles.{IsOfFiles, read_blamed, read_there}
use Rattle.receiving.proofs.Spelled.{some}
use Rattle.receiving.proofs.Stored.{IsLeftBy, IsSome, sink_begins, sink_holds, sink_stays}
use Rattle.receiving.proofs.Written.{IsWritten}
use Rattle.receiving.specs.Checks.{AreKnown}
use Rattle.receiving.specs.Files.{IsSourceOf, NoWriteFails, Store}
use Rattle.restricting.specs.Reports.{AreReported}
use Rattle.restricting.specs.Restrictions.{IsRestrictedAs, IsRestrictionAnswer, IsRestrictionRead, IsTooLarge, IsUnrestricted}
use Rattle.receiving.specs.HeldTexts.{AreOtherFilesKept, Stays}
use Rattle.receiving.specs.Lines.{AreAll, IsUnread}
use Rattle.restricting.specs.Runs.{IsOutOfMemory, IsRestrictAnswer, IsRestrictionMade, RestrictsFile}
use Rattle.restricting.specs.declared.fault.RestrictionFault.{RestrictionFault}
use Rattle.restricting.specs.declared.fault.RestrictionFault.TheVariants.{Document, Unwritten}
use Rattle.device.specs.Device.{IsLongerThan}
use Rattle.profile.specs.declared.fault.DocumentFault.{DocumentFault}
use Rattle.profile.specs.declared.fault.DocumentFault.TheVariants as reading
use Rattle.program.specs.declared.limits.Limits.{Limits}
use Rattle.program.specs.declared.version.Version.{Version}
use Rattle.telling.specs.Devices.{Device, FailsIn, IsReadUntil, Takes}
use Rattle.source_lines.specs.Sources.{IsReadToItsEnd, SourceState}
use Rattle.statements_text.specs.Restrictions.{IsNotRestricted}
use Rattle.statements_text.specs.declared.restriction.Restriction.{Restriction}
use Rattle.system_files.specs.Contents.{Content, nothing_taken}

-- ---- one call

-- bytes that were read, and are restricted so
pub restricted_as : (lines : Bool) (version : Version) (most : ℕ) (left : Option (List ℕ)) (bytes given : List ℕ) (r : Restriction) → AreKnown left bytes → length bytes ≤ most → given ≡ bytes → AreReported lines version given r → IsRestrictedAs lines version most left r
restricted_as lines version most left bytes given r known within same is =
    let P : List ℕ → Type 0 = λ b. AreReported lines version b r in
    record { bytes = bytes; bytes_are = known; within = within; are = subst P same is }

not_restricted : (version : Version) (most : ℕ) (left : Option (List ℕ)) (bytes : List ℕ) (fault : DocumentFault) → AreAll most left bytes → IsNotRestricted version fault bytes → IsUnrestricted version most left bytes fault
not_restricted version most left bytes (reading.Faults found) all is = absurd is
not_restricted version most left bytes reading.TooLarge all is = absurd is
not_restricted version most left bytes reading.Io all is = absurd is
not_restricted version most left bytes reading.Memory all is = tt
not_restricted version most left bytes _ all is = (all, is)

-- bytes that were read, and are not restricted for this fault
pub unrestricted : (version : Version) (most : ℕ) (left : Option (List ℕ)) (bytes given : List ℕ) (fault : DocumentFault) → AreKnown left bytes → length bytes ≤ most → given ≡ bytes → IsNotRestricted version fault given → IsUnrestricted version most left bytes fault
unrestricted version most left bytes given fault known within same is =
    let P : List ℕ → Type 0 = λ b. IsNotRestricted version fault b in
    not_restricted version most left bytes fault (record { are = known; within = within }) (subst P same is)

-- bytes that were not all read are not restricted
pub unread_unrestricted : (version : Version) (most : ℕ) (left : Option (List ℕ)) (bytes : List ℕ) (fault : DocumentFault) → IsUnread most left fault → IsUnrestricted version most left bytes fault
unread_unrestricted version most left bytes reading.TooLarge is = is
unread_unrestricted version most left bytes reading.Io is = tt
unread_unrestricted version most left bytes reading.Memory is = tt
unread_unrestricted version most left bytes _ is = absurd is

-- their source was read to its end
pub read_until : (version : Version) (bytes : List ℕ) (fault : DocumentFault) (old new : SourceState) → IsNotRestricted version fault bytes → IsReadToItsEnd old new → IsReadUntil fault old new
read_until version bytes reading.TooLarge old new is read = absurd is
read_until version bytes reading.Io old new is read = absurd is
read_until version bytes reading.Memory old new is read = read.on
read_until version bytes _ old new is read = read

-- and they were not too many
pub never_large : (version : Version) (bytes : List ℕ) (fault : DocumentFault) → IsNotRestricted version fault bytes → fault ≡ reading.TooLarge → ⊥
never_large version bytes reading.TooLarge is large = is
never_large version bytes _ is large = cc

-- ---- what is said of a source is said of its file

file_all : (most : ℕ) (file left : Option (List ℕ)) (bytes : List ℕ) → Keeps file left → AreAll most left bytes → AreAll most file bytes
file_all most file left bytes kept all = record { are = known_file file left bytes kept all.are; within = all.within }

file_has : (lines : Bool) (version : Version) (most : ℕ) (file left : Option (List ℕ)) (r : Restriction) → Keeps file left → IsRestrictedAs lines version most left r → IsRestrictedAs lines version most file r
file_has lines version most file left r kept has = record { bytes = has.bytes; bytes_are = known_file file left has.bytes kept has.bytes_are; within = has.within; are = has.are }

file_longer : (most : ℕ) (file left : Option (List ℕ)) → Keeps file left → IsLongerThan left most → IsLongerThan file most
file_longer most None left kept longer = tt
file_longer most (Some xs) None kept longer = absurd kept
file_longer most (Some xs) (Some ys) kept longer =
    let P : List ℕ → Type 0 = λ bytes. most < length bytes in
    subst P kept longer

file_unrestricted : (version : Version) (most : ℕ) (file left : Option (List ℕ)) (bytes : List ℕ) (fault : DocumentFault) → Keeps file left → IsUnrestricted version most left bytes fault → IsUnrestricted version most file bytes fault
file_unrestricted version most file left bytes reading.TooLarge kept is = file_longer most file left kept is
file_unrestricted version most file left bytes reading.Io kept is = tt
file_unrestricted version most file left bytes reading.Memory kept is = tt
file_unrestricted version most file left bytes _ kept is = (file_all most file left bytes kept is.0, is.1)

-- ---- restrictions in files

-- the text of what is kept is not empty
kept_some : (lines : Bool) (version : Version) (most : ℕ) (left : Option (List ℕ)) (r : Restriction) → IsRestrictedAs lines version most left r → IsSome r.text.items
kept_some lines version most left r is = some _ r.text.items (ap (λ (v : Vec ℕ). v.items) is.are.text ∙ is.are.are.restricted.text) tt

module _ (lines : Bool) (limits : Limits) where
  restrict_answer : (document output : List ℕ) (known : Bool) (content content' : Content) (left : Option (List ℕ)) (old new : Device) (answer : Result Restriction RestrictionFault) → Keeps (content document) left → old.0 ≡ nothing_taken known → IsLeftBy (content output) (content' output) new.0 → IsRestrictionAnswer lines limits.version limits.max_bytes left (Takes old new) (FailsIn old new) (new ≡ old) answer → IsRestrictAnswer lines document output limits known content content' answer
  restrict_answer document output known content content' left old new (Ok r) kept fresh closed is =
      (file_has lines limits.version limits.max_bytes (content document) left r kept is.0, sink_holds known old new (content output) (content' output) r.text.items fresh (kept_some lines limits.version limits.max_bytes left r is.0) is.1 closed)
  restrict_answer document output known content content' left old new (Err Unwritten) kept fresh closed is =
      (is.0, file_has lines limits.version limits.max_bytes (content document) left is.0 kept is.1, sink_begins known old new (content output) (content' output) is.0.text.items fresh is.2 closed)
  restrict_answer document output known content content' left old new (Err (Document fault bytes)) kept fresh closed is =
      (file_unrestricted limits.version limits.max_bytes (content document) left bytes.items fault kept is.0, sink_stays known old new (content output) (content' output) fresh is.1 closed)

  -- which files are there, and which device is to blame
  restricts_file : (s : Store) (held : Option (List ℕ)) (before after : SourceState) (old new : Device) (answer : Result Restriction RestrictionFault) → IsSourceOf s.is_known held before → IsOfFiles s.reads_fail s.is_known after → old.1 ≡ 0 → IsCounted s.failed_before s.failed_behind new.1 → IsRestrictionAnswer lines limits.version limits.max_bytes before.left (Takes old new) (FailsIn old new) (new ≡ old) answer → IsRestrictionRead answer before after → IfErr answer (λ e. IsTooLarge e → after.most + limits.max_bytes < before.most) → RestrictsFile s held answer
  restricts_file s held before after old new (Ok r) document of none counted is read beyond = (read_there s.is_known held before after document read, counted.unfailed (is.1.1 ∙ none))
  restricts_file s held before after old new (Err Unwritten) document of none counted is read beyond =
      (read_there s.is_known held before after document read, counted.failed (some_failed old new is.0.text.items none is.2))
  restricts_file s held before after old new (Err (Document fault bytes)) document of none counted is read beyond =
      (read_blamed s.reads_fail s.is_known held fault limits.max_bytes before after document of read beyond, counted.unfailed (ap (λ (d : Device). d.1) is.1 ∙ none))

  pub restriction_made : (document output : List ℕ) (s : Store) (content content' : Content) (before after : SourceState) (old new : Device) (answer : Result Restriction RestrictionFault) → IsSourceOf s.is_known (content document) before → IsOfFiles s.reads_fail s.is_known after → IsWritten s content content' output old new → IsRestrictionAnswer lines limits.version limits.max_bytes before.left (Takes old new) (FailsIn old new) (new ≡ old) answer → IsRestrictionRead answer before after → IfErr answer (λ e. IsTooLarge e → after.most + limits.max_bytes < before.most) → IsRestrictionMade lines document output limits s content content' answer
  restriction_made document output s content content' before after old new answer is_source of written is read beyond = record {
    answered = restrict_answer document output s.is_known content content' before.left old new answer is_source.left written.fresh written.left is;
    blames = restricts_file s (content document) before after old new answer is_source of written.working written.counted is read beyond;
    others = written.others;
  }

  -- where memory was refused before the call
  pub out_of_memory : (document output : List ℕ) (s : Store) (content content' : Content) (fault : RestrictionFault) → IsOutOfMemory fault → Stays s.is_known (content output) (content' output) → NoWriteFails s → AreOtherFilesKept output content content' → IsRestrictionMade lines document output limits s content content' (Err fault)
  out_of_memory document output s content content' Unwritten memory stays unfailed others = absurd memory
  out_of_memory document output s content content' (Document fault bytes) memory stays unfailed others =
      let P : DocumentFault → Type 0 = λ f. IsRestrictionMade lines document output limits s content content' (Err (Document f bytes)) in
      subst P (sym memory) (record { answered = (tt, stays); blames = (tt, unfailed); others = others })
