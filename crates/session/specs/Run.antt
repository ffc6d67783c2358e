-- What is said of a document that is read and run to its end.
use Rattle.std.specs.Prelude.{ℕ, List, Option, Result, Ok, Err}
use Rattle.axioms.specs.Ontology.{Ontology}
use Rattle.profile.specs.Faults.{RefusesKnown}
use Rattle.program.specs.declared.limits.Limits.{Limits}
use Rattle.session.specs.TextAnswers.{IsBeyondLimit, IsReadAs}
use Rattle.telling.specs.Devices.{IsReadUntil}
use Rattle.source_lines.specs.Sources.{SourceState, IsReadToItsEnd}
use Rattle.session.specs.declared.question_fault.QuestionFault.{QuestionFault}
use Rattle.session.specs.declared.question_fault.QuestionFault.TheVariants as asking
use Rattle.session.specs.declared.run_fault.RunFault.{RunFault}
use Rattle.session.specs.declared.run_fault.RunFault.TheVariants.{Document, Limit, Memory}

-- what a fault says of the document: it is refused, or it is read and this came behind that
abbrev pub IsRunFault : Limits → (document : Option (List ℕ)) → RunFault → Type 0
IsRunFault limits document (Document fault) = RefusesKnown limits.version document limits.max_bytes fault
IsRunFault limits document Limit = IsBeyondLimit limits document
IsRunFault limits document Memory = (o : Ontology) × IsReadAs limits.version limits.max_bytes document o

-- what was read of the document: all of it, where it was read as an ontology; otherwise some of it; and the fault of a source
-- is told only where it failed
abbrev pub IsRunRead : {X : Type 0} → Result X RunFault → (old new : SourceState) → Type 0
IsRunRead (Ok x) old new = IsReadToItsEnd old new
IsRunRead (Err (Document fault)) old new = IsReadUntil fault old new
IsRunRead (Err Limit) old new = IsReadToItsEnd old new
IsRunRead (Err Memory) old new = IsReadToItsEnd old new

-- the fault, as one of a question
abbrev pub question_fault : RunFault → QuestionFault
question_fault (Document fault) = asking.Document fault
question_fault Limit = asking.Limit
question_fault Memory = asking.Memory
