-- What an inference writes, and what its files hold then.
use Rattle.std.proofs.Common.{◌≡◌, ◌∙◌, ◌+◌, ◌<◌, ℕ, List, Bool, Option, Result, Ok, Err, ap}
use Rattle.std.specs.Prelude.{IsErrOf}
use Rattle.std.specs.Io.KnownBytes.{Keeps}
use Rattle.classification.specs.declared.classification.Summary.{Summary}
use Rattle.receiving.proofs.Counted.{IsCounted, some_failed}
use Rattle.receiving.proofs.Kept.{reads_file, refuses_file}
use Rattle.cli.proofs.Questions.{read_as_file}
use Rattle.receiving.proofs.ReadFiles.{IsOfFiles, read_blamed, read_there}
use Rattle.receiving.proofs.Spelled.{some}
use Rattle.receiving.proofs.Stored.{IsLeftBy, IsSome, sink_begins, sink_holds, sink_stays}
use Rattle.receiving.proofs.Written.{IsWritten}
use Rattle.cli.specs.Files.{InfersFile}
use Rattle.receiving.specs.Files.{IsSourceOf, Store}
use Rattle.cli.specs.Inferring.{IsInferenceAnswer, IsInferenceRead, IsInferredBy}
use Rattle.cli.specs.Runs.{IsInferAnswer, IsInferMade}
use Rattle.cli.specs.declared.fault.InferenceFault.{InferenceFault}
use Rattle.cli.specs.declared.fault.InferenceFault.TheVariants.{Run, Unwritten}
use Rattle.profile.specs.declared.fault.DocumentFault.{DocumentFault}
use Rattle.profile.specs.declared.fault.DocumentFault.TheVariants as reading
use Rattle.program.specs.declared.limits.Limits.{Limits}
use Rattle.telling.specs.Devices.{Device, FailsIn, Takes}
use Rattle.session.specs.Run.{IsRunFault}
use Rattle.session.specs.declared.run_fault.RunFault.{RunFault}
use Rattle.session.specs.declared.run_fault.RunFault.TheVariants.{Document, Limit, Memory}
use Rattle.source_lines.specs.Sources.{SourceState}
use Rattle.system_files.specs.Contents.{Content, nothing_taken}

-- ---- what is said of a source is said of its file

file_inferred : (limits : Limits) (file left : Option (List ℕ)) (summary : Summary) (text : List ℕ) → Keeps file left → IsInferredBy limits left summary text → IsInferredBy limits file summary text
file_inferred limits file left summary text kept is = record {
  ontology = is.ontology;
  reads = reads_file limits.version file left limits.max_bytes is.ontology kept is.reads;
  within = is.within;
  inferred_is = is.inferred_is;
}

file_fault : (limits : Limits) (file left : Option (List ℕ)) (fault : RunFault) → Keeps file left → IsRunFault limits left fault → IsRunFault limits file fault
file_fault limits file left (Document fault) kept is = refuses_file limits.version file left limits.max_bytes fault kept is
file_fault limits file left Limit kept is = (is.0, read_as_file limits.version file left limits.max_bytes is.0 kept is.1, is.2)
file_fault limits file left Memory kept is = (is.0, read_as_file limits.version file left limits.max_bytes is.0 kept is.1)

-- ---- inferences in files

-- the text of what is inferred is not empty
inferred_some : (limits : Limits) (left : Option (List ℕ)) (summary : Summary) (text : List ℕ) → IsInferredBy limits left summary text → IsSome text
inferred_some limits left summary text is = some _ text is.inferred_is.text_is tt

infer_answer : (document output : List ℕ) (limits : Limits) (known : Bool) (content content' : Content) (left : Option (List ℕ)) (old new : Device) (answer : Result Summary InferenceFault) → Keeps (content document) left → old.0 ≡ nothing_taken known → IsLeftBy (content output) (content' output) new.0 → IsInferenceAnswer limits left (Takes old new) (FailsIn old new) (new ≡ old) answer → IsInferAnswer document output limits known content content' answer
infer_answer document output limits known content content' left old new (Ok summary) kept fresh closed is =
    (is.0, file_inferred limits (content document) left summary is.0 kept is.1, sink_holds known old new (content output) (content' output) is.0 fresh (inferred_some limits left summary is.0 is.1) is.2 closed)
infer_answer document output limits known content content' left old new (Err Unwritten) kept fresh closed is =
    (is.0, is.1, file_inferred limits (content document) left is.0 is.1 kept is.2, sink_begins known old new (content output) (content' output) is.1 fresh is.3 closed)
infer_answer document output limits known content content' left old new (Err (Run fault)) kept fresh closed is =
    (file_fault limits (content document) left fault kept is.0, sink_stays known old new (content output) (content' output) fresh is.1 closed)

-- which files are there, and which device is to blame
infers_file : (limits : Limits) (s : Store) (held : Option (List ℕ)) (before after : SourceState) (old new : Device) (answer : Result Summary InferenceFault) → IsSourceOf s.is_known held before → IsOfFiles s.reads_fail s.is_known after → old.1 ≡ 0 → IsCounted s.failed_before s.failed_behind new.1 → IsInferenceAnswer limits before.left (Takes old new) (FailsIn old new) (new ≡ old) answer → IsInferenceRead answer before after → (IsErrOf answer (Run (Document reading.TooLarge)) → after.most + limits.max_bytes < before.most) → InfersFile s held answer
infers_file limits s held before after old new (Ok summary) document of none counted is read beyond = (read_there s.is_known held before after document read, counted.unfailed (is.2.1 ∙ none))
infers_file limits s held before after old new (Err Unwritten) document of none counted is read beyond =
    (read_there s.is_known held before after document read, counted.failed (some_failed old new is.1 none is.3))
infers_file limits s held before after old new (Err (Run (Document fault))) document of none counted is read beyond =
    (read_blamed s.reads_fail s.is_known held fault limits.max_bytes before after document of read (λ same. beyond (ap (λ (f : DocumentFault). Err (Run (Document f))) same)), counted.unfailed (ap (λ (d : Device). d.1) is.1 ∙ none))
infers_file limits s held before after old new (Err (Run Limit)) document of none counted is read beyond =
    (read_there s.is_known held before after document read, counted.unfailed (ap (λ (d : Device). d.1) is.1 ∙ none))
infers_file limits s held before after old new (Err (Run Memory)) document of none counted is read beyond =
    (read_there s.is_known held before after document read, counted.unfailed (ap (λ (d : Device). d.1) is.1 ∙ none))

pub inference_made : (document output : List ℕ) (limits : Limits) (s : Store) (content content' : Content) (before after : SourceState) (old new : Device) (answer : Result Summary InferenceFault) → IsSourceOf s.is_known (content document) before → IsOfFiles s.reads_fail s.is_known after → IsWritten s content content' output old new → IsInferenceAnswer limits before.left (Takes old new) (FailsIn old new) (new ≡ old) answer → IsInferenceRead answer before after → (IsErrOf answer (Run (Document reading.TooLarge)) → after.most + limits.max_bytes < before.most) → IsInferMade document output limits s content content' answer
inference_made document output limits s content content' before after old new answer is_source of written is read beyond = record {
  answered = infer_answer document output limits s.is_known content content' before.left old new answer is_source.left written.fresh written.left is;
  blames = infers_file limits s (content document) before after old new answer is_source of written.working written.counted is read beyond;
  others = written.others;
}
