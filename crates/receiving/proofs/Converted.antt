-- What a conversion writes, and what its files hold then.
use Rattle.std.proofs.Common.{◌≡◌, ◌∙◌, ◌+◌, ◌<◌, ℕ, List, [], Bool, true, false, Option, Some, None, Result, Ok, Err, ap, refl, subst}
use Rattle.std.specs.Prelude.{IsErrOf}
use Rattle.std.specs.Io.KnownBytes.{Keeps}
use Rattle.std.proofs.KnownBytes.{Keeps-refl}
use Rattle.axioms.specs.Ontology.{Ontology}
use Rattle.axioms.specs.WellFormedness.{IsOntology}
use Rattle.certificate_text.specs.Conversions.{IsConversion}
use Rattle.certificate_text.specs.declared.conversion.ConvertFault.{ConvertFault}
use Rattle.certificate_text.specs.declared.conversion.ConvertFault.TheVariants.{BadText, Io, LaterPremise, Memory}
use Rattle.certificate.specs.declared.format.Format.{Format}
use Rattle.receiving.proofs.Counted.{IsCounted, some_failed}
use Rattle.receiving.proofs.Kept.{known_file, reads_file, refuses_file}
use Rattle.receiving.proofs.ReadFiles.{IsOfFiles, read_blamed, read_there, unreadable}
use Rattle.receiving.proofs.Spelled.{some, spelled}
use Rattle.receiving.proofs.Stored.{IsLeftBy, IsSome, sink_begins, sink_holds}
use Rattle.receiving.proofs.Written.{IsWritten}
use Rattle.receiving.specs.Checks.{AreKnown, IsTextRead}
use Rattle.receiving.specs.Conversions.{AreBothRead, Converts, IsConversionAnswer, IsUntaken, conversion_fault}
use Rattle.receiving.specs.Files.{BlamesWrites, ConvertsFiles, IsSourceOf, NoWriteFails, Store}
use Rattle.receiving.specs.HeldTexts.{Holds, HoldsPrefix, Stays}
use Rattle.receiving.specs.Runs.{IsConversionMade, IsConvertAnswer, format_of}
use Rattle.receiving.specs.declared.fault.CheckFault.{CheckFault}
use Rattle.receiving.specs.declared.fault.CheckFault.TheVariants as checking
use Rattle.receiving.specs.declared.fault.ConversionFault.{ConversionFault}
use Rattle.receiving.specs.declared.fault.ConversionFault.TheVariants.{Certificate, Document, Unread}
use Rattle.command_line.specs.declared.tasks.Conversion.{Conversion}
use Rattle.profile.specs.Faults.{ReadsKnown}
use Rattle.profile.specs.declared.fault.DocumentFault.{DocumentFault}
use Rattle.profile.specs.declared.fault.DocumentFault.TheVariants as reading
use Rattle.program.specs.declared.limits.Limits.{Limits}
use Rattle.program.specs.declared.version.Version.{Version}
use Rattle.telling.specs.Devices.{Device, FailsIn, Takes}
use Rattle.source_lines.specs.Sources.{SourceState}
use Rattle.system_files.specs.Contents.{Content, nothing_taken}

-- ---- one call

-- a sink that is not called has taken nothing
pub untaken : (sink : Device) → IsUntaken sink sink
untaken sink = (Keeps-refl sink.0, refl)

-- the text of a certificate is not empty
converted_some : (o : Ontology) (text : List ℕ) (format : Format) (other : List ℕ) → IsConversion o text format other → IsSome other
converted_some o text format other is = some _ other is.other_is.spelled (spelled format is.certificate)

-- what is said of one place that is written is said of another
pub elsewhere : {X : Type 0} (o : Ontology) (format : Format) (Whole Begun Whole' Begun' : List ℕ → Type 0) (Nothing Nothing' : Type 0) (text : List ℕ) (r : Result X ConvertFault) → ((other : List ℕ) → IsSome other → Whole other → Whole' other) → ((other : List ℕ) → Begun other → Begun' other) → (Nothing → Nothing') → Converts o format Whole Begun Nothing text r → Converts o format Whole' Begun' Nothing' text r
elsewhere o format Whole Begun Whole' Begun' Nothing Nothing' text (Ok x) whole begun nothing is = (is.0, is.1, whole is.0 (converted_some o text format is.0 is.1) is.2)
elsewhere o format Whole Begun Whole' Begun' Nothing Nothing' text (Err Io) whole begun nothing is = (is.0, is.1, begun is.0 is.2)
elsewhere o format Whole Begun Whole' Begun' Nothing Nothing' text (Err (BadText at)) whole begun nothing is = (is.0, nothing is.1)
elsewhere o format Whole Begun Whole' Begun' Nothing Nothing' text (Err (LaterPremise line)) whole begun nothing is = (is.0, nothing is.1)
elsewhere o format Whole Begun Whole' Begun' Nothing Nothing' text (Err Memory) whole begun nothing is = (is.0, nothing is.1)

-- ---- what a file holds whose sink was converted into

keeps_nothing : (known : Bool) (old new : Option (List ℕ)) → old ≡ nothing_taken known → Keeps old new → Holds known new []
keeps_nothing false old new fresh keeps = tt
keeps_nothing true old new fresh keeps = let P : Option (List ℕ) → Type 0 = λ o. Keeps o new in kept new (subst P fresh keeps)
  where
    kept : (new : Option (List ℕ)) → Keeps (Some []) new → new ≡ Some []
    kept None keeps = absurd keeps
    kept (Some bytes) keeps = ap Some keeps

untaken_stays : (known : Bool) (old new : Device) (held held' : Option (List ℕ)) → old.0 ≡ nothing_taken known → IsUntaken old new → IsLeftBy held held' new.0 → Stays known held held'
untaken_stays false old new held held' fresh untaken left = tt
untaken_stays true old new held held' fresh untaken left = left.unwritten (keeps_nothing true old.0 new.0 fresh untaken.0)

pub converts_file : {X : Type 0} (known : Bool) (o : Ontology) (text : List ℕ) (format : Format) (old new : Device) (held held' : Option (List ℕ)) (r : Result X ConvertFault) → old.0 ≡ nothing_taken known → IsLeftBy held held' new.0 → Converts o format (Takes old new) (FailsIn old new) (IsUntaken old new) text r → Converts o format (Holds known held') (HoldsPrefix known held held') (Stays known held held') text r
converts_file known o text format old new held held' r fresh left is =
    elsewhere o format (Takes old new) (FailsIn old new) (Holds known held') (HoldsPrefix known held held') (IsUntaken old new) (Stays known held held') text r
    (λ other some takes. sink_holds known old new held held' other fresh some takes left) (λ other fails. sink_begins known old new held held' other fresh fails left) (λ none. untaken_stays known old new held held' fresh none left) is

-- ---- a certificate that is not read

some_known : (left : Option (List ℕ)) → (text : List ℕ) × AreKnown left text
some_known None = ([], tt)
some_known (Some bytes) = (bytes, refl)

-- whatever is written: nothing is
pub unread_answer : (X : Type 0) (version : Version) (most : ℕ) (format : Format) (document certificate : Option (List ℕ)) (Whole Begun : List ℕ → Type 0) (Nothing : Type 0) (o : Ontology) (fault : CheckFault) → ReadsKnown version document most o → IsOntology o → ((other : DocumentFault) → fault ≡ checking.Document other → ⊥) → Nothing → IsConversionAnswer {X = X} version most format document certificate Whole Begun Nothing (Err (conversion_fault fault))
unread_answer X version most format document certificate Whole Begun Nothing o (checking.Document fault) reads well_formed other nothing = absurd (other fault refl)
unread_answer X version most format document certificate Whole Begun Nothing o checking.Memory reads well_formed other nothing =
    let known = some_known certificate in
    record { ontology = o; reads = reads; well_formed = well_formed; text = known.0; text_is = known.1; related = (tt, nothing) }
unread_answer X version most format document certificate Whole Begun Nothing o (checking.Io n) reads well_formed other nothing = ((o, reads), nothing)

no_document : (X : Type 0) (number : ℕ) (old new : SourceState) (fault : CheckFault) → IsTextRead {X = X} number (Err fault) old new → (other : DocumentFault) → fault ≡ checking.Document other → ⊥
no_document X number old new fault read other same = let P : CheckFault → Type 0 = λ f. IsTextRead {X = X} number (Err f) old new in subst P same read

-- the source of the certificate is at fault
pub unread_source : (X Y : Type 0) (version : Version) (most : ℕ) (format : Format) (document certificate : Option (List ℕ)) (Whole Begun : List ℕ → Type 0) (Nothing : Type 0) (o : Ontology) (number : ℕ) (old new : SourceState) (fault : CheckFault) → ReadsKnown version document most o → IsOntology o → IsTextRead {X = Y} number (Err fault) old new → Nothing → IsConversionAnswer {X = X} version most format document certificate Whole Begun Nothing (Err (conversion_fault fault))
unread_source X Y version most format document certificate Whole Begun Nothing o number old new fault reads well_formed read nothing =
    unread_answer X version most format document certificate Whole Begun Nothing o fault reads well_formed (no_document Y number old new fault read) nothing

-- ---- conversions of files

-- what is said of sources and of a sink is said of their files
convert_answer : {X : Type 0} (c : Conversion) (limits : Limits) (known : Bool) (content content' : Content) (d e : Option (List ℕ)) (old new : Device) (answer : Result X ConversionFault) → Keeps (content c.document.now) d → Keeps (content c.certificate.now) e → old.0 ≡ nothing_taken known → IsLeftBy (content c.output.now) (content' c.output.now) new.0 → IsConversionAnswer limits.version limits.max_bytes (format_of c.format) d e (Takes old new) (FailsIn old new) (IsUntaken old new) answer → IsConvertAnswer c limits known content content' answer
convert_answer {X} c limits known content content' d e old new (Ok x) kd ke fresh left is = record {
  ontology = is.ontology;
  reads = reads_file limits.version (content c.document.now) d limits.max_bytes is.ontology kd is.reads;
  well_formed = is.well_formed;
  text = is.text;
  text_is = known_file (content c.certificate.now) e is.text ke is.text_is;
  related = converts_file known is.ontology is.text (format_of c.format) old new (content c.output.now) (content' c.output.now) (Ok x) fresh left is.related;
}
convert_answer {X} c limits known content content' d e old new (Err (Certificate fault)) kd ke fresh left is = record {
  ontology = is.ontology;
  reads = reads_file limits.version (content c.document.now) d limits.max_bytes is.ontology kd is.reads;
  well_formed = is.well_formed;
  text = is.text;
  text_is = known_file (content c.certificate.now) e is.text ke is.text_is;
  related = converts_file {X = X} known is.ontology is.text (format_of c.format) old new (content c.output.now) (content' c.output.now) (Err fault) fresh left is.related;
}
convert_answer c limits known content content' d e old new (Err (Document fault)) kd ke fresh left is =
    (refuses_file limits.version (content c.document.now) d limits.max_bytes fault kd is.0, untaken_stays known old new (content c.output.now) (content' c.output.now) fresh is.1 left)
convert_answer c limits known content content' d e old new (Err Unread) kd ke fresh left is =
    ((is.0.0, reads_file limits.version (content c.document.now) d limits.max_bytes is.0.0 kd is.0.1), untaken_stays known old new (content c.output.now) (content' c.output.now) fresh is.1 left)

-- how many writes had failed, where the sink failed or did not
not_counted : (s : Store) (old new : Device) → old.1 ≡ 0 → IsCounted s.failed_before s.failed_behind new.1 → new.1 ≡ old.1 → NoWriteFails s
not_counted s old new none counted same = counted.unfailed (same ∙ none)

fault_counted : (X : Type 0) (s : Store) (o : Ontology) (format : Format) (old new : Device) (text : List ℕ) (fault : ConvertFault) → old.1 ≡ 0 → IsCounted s.failed_before s.failed_behind new.1 → Converts {X = X} o format (Takes old new) (FailsIn old new) (IsUntaken old new) text (Err fault) → BlamesWrites s fault
fault_counted X s o format old new text (BadText at) none counted is = not_counted s old new none counted is.1.1
fault_counted X s o format old new text (LaterPremise line) none counted is = not_counted s old new none counted is.1.1
fault_counted X s o format old new text Memory none counted is = not_counted s old new none counted is.1.1
fault_counted X s o format old new text Io none counted is = counted.failed (some_failed old new is.0 none is.2)

-- which files are there, and which device is to blame
converts_files : {X : Type 0} (c : Conversion) (limits : Limits) (s : Store) (content : Content) (before after : SourceState × SourceState) (old new : Device) (answer : Result X ConversionFault) → IsSourceOf s.is_known (content c.document.now) before.0 → IsSourceOf s.is_known (content c.certificate.now) before.1 → IsOfFiles s.reads_fail s.is_known after.0 → IsOfFiles s.reads_fail s.is_known after.1 → old.1 ≡ 0 → IsCounted s.failed_before s.failed_behind new.1 → IsConversionAnswer limits.version limits.max_bytes (format_of c.format) before.0.left before.1.left (Takes old new) (FailsIn old new) (IsUntaken old new) answer → AreBothRead answer before after → (IsErrOf answer (Document reading.TooLarge) → after.0.most + limits.max_bytes < before.0.most) → ConvertsFiles s content c answer
converts_files c limits s content before after old new (Ok x) document certificate of of' none counted is read beyond =
    ((read_there s.is_known _ before.0 after.0 document read.0, read_there s.is_known _ before.1 after.1 certificate read.1), not_counted s old new none counted is.related.2.1)
converts_files c limits s content before after old new (Err (Document fault)) document certificate of of' none counted is read beyond =
    (read_blamed s.reads_fail s.is_known _ fault limits.max_bytes before.0 after.0 document of read.0 (λ same. beyond (ap (λ (f : DocumentFault). Err (Document f)) same)), not_counted s old new none counted is.1.1)
converts_files c limits s content before after old new (Err Unread) document certificate of of' none counted is read beyond =
    (read_there s.is_known _ before.0 after.0 document read.0, unreadable s.reads_fail s.is_known _ before.1 after.1 certificate of' read.1, not_counted s old new none counted is.1.1)
converts_files {X} c limits s content before after old new (Err (Certificate Memory)) document certificate of of' none counted is read beyond =
    (read_there s.is_known _ before.0 after.0 document read.0, fault_counted X s is.ontology (format_of c.format) old new is.text Memory none counted is.related)
converts_files {X} c limits s content before after old new (Err (Certificate Io)) document certificate of of' none counted is read beyond =
    ((read_there s.is_known _ before.0 after.0 document read.0, read_there s.is_known _ before.1 after.1 certificate read.1), fault_counted X s is.ontology (format_of c.format) old new is.text Io none counted is.related)
converts_files {X} c limits s content before after old new (Err (Certificate (BadText at))) document certificate of of' none counted is read beyond =
    ((read_there s.is_known _ before.0 after.0 document read.0, read_there s.is_known _ before.1 after.1 certificate read.1), fault_counted X s is.ontology (format_of c.format) old new is.text (BadText at) none counted is.related)
converts_files {X} c limits s content before after old new (Err (Certificate (LaterPremise line))) document certificate of of' none counted is read beyond =
    ((read_there s.is_known _ before.0 after.0 document read.0, read_there s.is_known _ before.1 after.1 certificate read.1), fault_counted X s is.ontology (format_of c.format) old new is.text (LaterPremise line) none counted is.related)

pub conversion_made : {X : Type 0} (c : Conversion) (limits : Limits) (s : Store) (content content' : Content) (format : Format) (before after : SourceState × SourceState) (old new : Device) (answer : Result X ConversionFault) → format ≡ format_of c.format → IsSourceOf s.is_known (content c.document.now) before.0 → IsSourceOf s.is_known (content c.certificate.now) before.1 → IsOfFiles s.reads_fail s.is_known after.0 → IsOfFiles s.reads_fail s.is_known after.1 → IsWritten s content content' c.output.now old new → IsConversionAnswer limits.version limits.max_bytes format before.0.left before.1.left (Takes old new) (FailsIn old new) (IsUntaken old new) answer → AreBothRead answer before after → (IsErrOf answer (Document reading.TooLarge) → after.0.most + limits.max_bytes < before.0.most) → IsConversionMade c limits s content content' answer
conversion_made c limits s content content' format before after old new answer same document certificate of of' written is read beyond =
    let P : Format → Type 0 = λ f. IsConversionAnswer limits.version limits.max_bytes f before.0.left before.1.left (Takes old new) (FailsIn old new) (IsUntaken old new) answer in
    let there = subst P same is in
    record {
      answered = convert_answer c limits s.is_known content content' before.0.left before.1.left old new answer document.left certificate.left written.fresh written.left there;
      blames = converts_files c limits s content before after old new answer document certificate of of' written.working written.counted there read beyond;
      others = written.others;
    }
