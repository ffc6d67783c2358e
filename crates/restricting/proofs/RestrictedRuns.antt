-- What a run of `restrict` leaves.
use Rattle.std.proofs.Common.{◌≡◌, ℕ, List, Bool, Option, Some, None, Result, Ok, Err, true, false, ap, inl, inr, string_bytes, subst, sym}
use Rattle.std.specs.Global.{Vec}
use Rattle.profile.specs.Documents.{ReadsAs}
use Rattle.profile.specs.Messages.{status_of}
use Rattle.program.specs.Status.{code_of}
use Rattle.program.specs.declared.limits.Limits.{Limits}
use Rattle.program.specs.declared.status.Status.TheVariants as statuses
use Rattle.receiving.proofs.NotDone.{document_not_done, told_not_done}
use Rattle.receiving.specs.Checks.{AreKnown}
use Rattle.receiving.specs.Files.{Store}
use Rattle.receiving.specs.HeldTexts.{Holds}
use Rattle.restricting.specs.Runs.{IsRestrictTold, IsRestrictionMade}
use Rattle.restricting.specs.Theorems.{IsRestrictedInto, WhatIsRestricted}
use Rattle.restricting.specs.declared.fault.RestrictionFault.{RestrictionFault}
use Rattle.restricting.specs.declared.fault.RestrictionFault.TheVariants.{Document, Unwritten}
use Rattle.statements_text.proofs.WholeKept.{faultless_kept}
use Rattle.statements_text.specs.declared.restriction.Restriction.{Restriction}
use Rattle.system_files.specs.Contents.{Content, IsThere}
use Rattle.telling.specs.Devices.{Device, Takes}
use Rattle.telling.specs.Printing.{IsPrinted, Output}

-- the bytes of a file that is there
held_bytes : (known : Bool) (held : Option (List ℕ)) (bytes : List ℕ) → known ≡ true → IsThere known held → AreKnown held bytes → held ≡ Some bytes
held_bytes false held bytes is_known there are = absurd (cc)
held_bytes true None bytes is_known there are = absurd (cc)
held_bytes true (Some xs) bytes is_known there are = ap Some are

-- a text that is printed with status 0 goes out
pub printed_done : (old new : Device) (text : List ℕ) → IsPrinted old new text statuses.Done (code_of statuses.Done) → Takes old new text
printed_done old new text (inl whole) = whole.0
printed_done old new text (inr failed) = let e = failed.1 in absurd (cc)

finished : (lines : Bool) (document output : List ℕ) (limits : Limits) (s : Store) (content content' : Content) (old new : Output) (answer : Result Restriction RestrictionFault) → s.is_known ≡ true → IsRestrictionMade lines document output limits s content content' answer → IsRestrictTold lines document output limits.max_bytes answer old new (code_of statuses.Done) → IsRestrictedInto lines limits.version limits.max_bytes (content document) (content' output) old.out new.out
finished lines document output limits s content content' old new (Ok r) known made told =
    let has = made.answered.0 in
    let plain = has.are.are in
    let is = plain.restricted in
    let same = ap (λ (v : Vec ℕ). v.items) has.are.text in
    let H : Bool → Type 0 = λ k. Holds k (content' output) r.text.items in
    let T : List ℕ → Type 0 = λ text. Takes old.out new.out text in
    let R : List ℕ → Type 0 = λ text. ReadsAs limits.version text is.ontology in
    record {
      bytes = has.bytes;
      held_is = held_bytes s.is_known (content document) has.bytes known made.blames.0 has.bytes_are;
      within = has.within;
      document = plain.document;
      text = plain.text;
      kept = r.text.items;
      kept_is = subst H known made.answered.1;
      ontology = is.ontology;
      numbered = is.numbered;
      reads = subst R (sym same) is.reads;
      whole = faultless_kept limits.version has.bytes plain.document has.are.plain plain.text is;
      reported = subst T has.are.report (printed_done old.out new.out (string_bytes r.report) told.0);
    }
finished lines document output limits s content content' old new (Err (Document fault bytes)) known made told = absurd (told_not_done old.err new.err _ (status_of fault) (document_not_done fault) told.1)
finished lines document output limits s content content' old new (Err Unwritten) known made told = absurd (told_not_done old.err new.err _ statuses.File (λ e. cc) told.1)

pub restricted_runs : WhatIsRestricted
restricted_runs lines document output limits s content content' old new known run =
    (finished lines document output limits s content content' old new run.answer known run.made run.told, run.made.others)
