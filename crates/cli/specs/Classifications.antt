-- What a classification of a document writes.
use Rattle.std.specs.Prelude.{◌≡◌, ◌≤◌, ℕ, List, [], Option, Result, Ok, Err}
use Rattle.axioms.specs.Ontology.{Ontology}
use Rattle.certificate.specs.declared.format.Format.{Format}
use Rattle.classification.specs.declared.classification.Summary.{Summary}
use Rattle.session.specs.Classifications.{IsClassified}
use Rattle.telling.specs.Devices.{IsReadUntil}
use Rattle.source_lines.specs.Sources.{SourceState, IsReadToItsEnd}
use Rattle.session.specs.WrittenTexts.{Sinks, Texts, AreWritten, AreWrittenUntil, all_seen}
use Rattle.cli.specs.declared.fault.ClassifyFault.{ClassifyFault}
use Rattle.cli.specs.declared.fault.ClassifyFault.TheVariants.{Document, Memory, Limit, Io}
use Rattle.receiving.specs.Checks.{IsRead}
use Rattle.device.specs.declared.device.Sink.{Ghosts}
use Rattle.profile.specs.Faults.{ReadsKnown, RefusesKnown}
use Rattle.engine.specs.Saturations.{HasMoreFactsThan}
use Rattle.program.specs.declared.limits.Limits.{Limits}
use Rattle.program.specs.declared.version.Version.{Version}

-- the document reads in the version as some ontology whose closure has more facts
abbrev pub IsBeyondLimit : Version → (most_bytes most_facts : ℕ) → (document : Option (List ℕ)) → Type 0
IsBeyondLimit version bytes facts document = (o : Ontology) × ReadsKnown version document bytes o × HasMoreFactsThan o [] facts

-- what a fault says of the document: it is refused, or it is read and this came behind that. The sinks are numbered from 1
abbrev pub IsFaultOf : Version → Format → (most_bytes most_facts : ℕ) → (document : Option (List ℕ)) → ClassifyFault → Type 0
IsFaultOf version format bytes facts document (Document fault) = RefusesKnown version document bytes fault
IsFaultOf version format bytes facts document Memory = IsRead version bytes document
IsFaultOf version format bytes facts document Limit = IsBeyondLimit version bytes facts document
IsFaultOf version format bytes facts document (Io n) = (1 ≤ n) × (n ≤ 3) × ((summary : Summary) × (texts : Texts) × IsClassified version format bytes facts document summary texts)

-- what was written where the answer is this fault: nothing where it came before the writing
abbrev pub IsUnwritten : Version → Format → (most_bytes most_facts : ℕ) → (document : Option (List ℕ)) → (old new : Sinks) → ClassifyFault → Type 0
IsUnwritten version format bytes facts document old new (Io n) =
    (summary : Summary) × (texts : Texts) × IsClassified version format bytes facts document summary texts × AreWrittenUntil n old new texts
IsUnwritten version format bytes facts document old new fault = new ≡ old

-- what an answer says of the document and of what was written
abbrev pub IsClassification : Version → Format → (most_bytes most_facts : ℕ) → (document : Option (List ℕ)) → (old new : Sinks) → Result Summary ClassifyFault → Type 0
IsClassification version format bytes facts document old new (Ok summary) = (texts : Texts) × IsClassified version format bytes facts document summary texts × AreWritten old new texts
IsClassification version format bytes facts document old new (Err fault) = IsFaultOf version format bytes facts document fault × IsUnwritten version format bytes facts document old new fault

-- what an answer says of the document, and of the three sinks before and after a call
abbrev pub Classifies : {T I C : Type 0} → Ghosts T → Ghosts I → Ghosts C → Limits → Format → (document : Option (List ℕ)) → (old new : T × I × C) → Result Summary ClassifyFault → Type 0
Classifies T I C limits format document old new answer = IsClassification limits.version format limits.max_bytes limits.max_facts document (all_seen T I C old) (all_seen T I C new) answer

-- what was read of the document: all of it, where it was read as an ontology; otherwise some of it; and the fault of a source
-- is told only where it failed
abbrev pub IsDocumentRead : {X : Type 0} → Result X ClassifyFault → (old new : SourceState) → Type 0
IsDocumentRead (Ok x) old new = IsReadToItsEnd old new
IsDocumentRead (Err (Document fault)) old new = IsReadUntil fault old new
IsDocumentRead (Err Memory) old new = IsReadToItsEnd old new
IsDocumentRead (Err Limit) old new = IsReadToItsEnd old new
IsDocumentRead (Err (Io n)) old new = IsReadToItsEnd old new
