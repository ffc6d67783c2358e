-- What is told of faults, and the status that goes with it.
use Rattle.std.specs.Prelude.{◌≡◌, ◌++◌, ℕ, List, codes, string_bytes}
use Rattle.std.specs.Fmt.{decimal}
use Rattle.profile.specs.Messages.{status_of}
use Rattle.telling.specs.Messages.{IsDocumentText, out_of_memory}
use Rattle.program.specs.declared.limits.Limits.{Limits}
use Rattle.program.specs.declared.status.Status.{Status}
use Rattle.program.specs.declared.status.Status.TheVariants as statuses
use Rattle.session.specs.declared.question_fault.QuestionFault.{QuestionFault}
use Rattle.session.specs.declared.question_fault.QuestionFault.TheVariants as asking
use Rattle.telling.specs.declared.messages.Message.{Message}

abbrev pub more_facts : ℕ → List ℕ
more_facts most = codes "limit: more than " ++ (decimal most ++ codes " facts\n")

abbrev pub question_status : QuestionFault → Status
question_status (asking.Document fault) = status_of fault
question_status asking.Limit = statuses.Limit
question_status (asking.UnknownName name) = statuses.Usage
question_status (asking.Expression fault) = status_of fault
question_status asking.Memory = statuses.Memory

-- the text is told of a question about the document at the path that is not answered; faults of an expression are told as those of a
-- document
abbrev pub IsQuestionText : (path : List ℕ) → (max_bytes max_facts : ℕ) → QuestionFault → List ℕ → Type 0
IsQuestionText path bytes facts (asking.Document fault) text = IsDocumentText path bytes fault text
IsQuestionText path bytes facts asking.Limit text = text ≡ more_facts facts
IsQuestionText path bytes facts (asking.UnknownName name) text = text ≡ codes "unknown name <" ++ (name.now ++ codes ">\n")
IsQuestionText path bytes facts (asking.Expression fault) text = IsDocumentText path bytes fault text
IsQuestionText path bytes facts asking.Memory text = text ≡ out_of_memory

-- the message tells of the fault of a question about the document at the path, with its status
abbrev pub IsQuestionMessage : (path : List ℕ) → Limits → QuestionFault → Message → Type 0
IsQuestionMessage path limits fault m = IsQuestionText path limits.max_bytes limits.max_facts fault (string_bytes m.text) × (m.status ≡ question_status fault)
