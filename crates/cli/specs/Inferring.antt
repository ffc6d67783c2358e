-- What an answer says of what is inferred of a document and written.
use Rattle.std.specs.Prelude.{◌≡◌, ℕ, List, Option, Result, Ok, Err}
use Rattle.classification.specs.declared.classification.Summary.{Summary}
use Rattle.cli.specs.declared.fault.InferenceFault.{InferenceFault}
use Rattle.cli.specs.declared.fault.InferenceFault.TheVariants.{Run, Unwritten}
use Rattle.device.specs.declared.device.Sink.{Ghosts}
use Rattle.program.specs.declared.limits.Limits.{Limits}
use Rattle.telling.specs.Devices.{FailsIn, IsReadUntil, Takes, seen}
use Rattle.session.specs.Inferences.{IsInferredOf}
use Rattle.session.specs.Run.{IsRunFault}
use Rattle.session.specs.declared.run_fault.RunFault.TheVariants.{Document, Limit, Memory}
use Rattle.source_lines.specs.Sources.{IsReadToItsEnd, SourceState}

-- of the document, these are the counts, and this is the text of what is inferred
abbrev pub IsInferredBy : Limits → (document : Option (List ℕ)) → Summary → (text : List ℕ) → Type 0
IsInferredBy limits document summary text = IsInferredOf limits.version limits.max_bytes limits.max_facts document summary text

-- what an answer says of the document and of what is written: what is inferred of it, whole, or the beginning of it, where the sink failed;
-- or nothing
abbrev pub IsInferenceAnswer : Limits → (document : Option (List ℕ)) → (Whole Begun : List ℕ → Type 0) → (Nothing : Type 0) → Result Summary InferenceFault → Type 0
IsInferenceAnswer limits document Whole Begun Nothing (Ok summary) = (text : List ℕ) × IsInferredBy limits document summary text × Whole text
IsInferenceAnswer limits document Whole Begun Nothing (Err Unwritten) =
    (summary : Summary) × (text : List ℕ) × IsInferredBy limits document summary text × Begun text
IsInferenceAnswer limits document Whole Begun Nothing (Err (Run fault)) = IsRunFault limits document fault × Nothing

-- what an answer says of the document, and of the sink before and after a call
abbrev pub Infers : {S : Type 0} → Ghosts S → Limits → (document : Option (List ℕ)) → (old new : S) → Result Summary InferenceFault → Type 0
Infers S limits document old new answer =
    IsInferenceAnswer limits document (Takes (seen S old) (seen S new)) (FailsIn (seen S old) (seen S new)) (seen S new ≡ seen S old) answer

-- what was read of the document: all of it, where it was read as an ontology; or until this fault
abbrev pub IsInferenceRead : {X : Type 0} → Result X InferenceFault → (old new : SourceState) → Type 0
IsInferenceRead (Ok x) old new = IsReadToItsEnd old new
IsInferenceRead (Err Unwritten) old new = IsReadToItsEnd old new
IsInferenceRead (Err (Run (Document fault))) old new = IsReadUntil fault old new
IsInferenceRead (Err (Run Limit)) old new = IsReadToItsEnd old new
IsInferenceRead (Err (Run Memory)) old new = IsReadToItsEnd old new
