-- What a run of the program does.
use Rattle.std.specs.Prelude.{◌≡◌, ℕ, ◌⊎◌, List, ◌∷◌, Bool, true, false, Result, Ok, Err}
use Rattle.certificate.specs.declared.format.Format.{Format}
use Rattle.classification.specs.declared.classification.Summary.{Summary}
use Rattle.clap.specs.Words.{Text}
use Rattle.command_line.specs.CommandLine.{AskForVersion, Gives, IsTaskOf, Refuses, document_of}
use Rattle.command_line.specs.declared.tasks.Command.{Command}
use Rattle.command_line.specs.declared.tasks.Command.TheVariants.{Ask, Check, Classify, Convert, Infer, Query, Restrict, Session}
use Rattle.command_line.specs.declared.tasks.Invocation.TheVariants as invocations
use Rattle.command_line.specs.declared.tasks.LineFault.{LineFault}
use Rattle.command_line.specs.declared.tasks.Paths.{Paths}
use Rattle.command_line.specs.declared.tasks.Task.{Task}
use Rattle.cli.specs.Inferring.{IsInferenceAnswer}
use Rattle.restricting.specs.Runs.{IsRestrictRun}
use Rattle.std.specs.Global.{Vec}
use Rattle.answers.specs.Questions.{names_in}
use Rattle.program.specs.declared.question.Question.{Question}
use Rattle.program.specs.declared.question.Question.TheVariants.{Unsatisfiable}
use Rattle.program.specs.declared.question.Spelling.{Spelling}
use Rattle.cli.specs.Files.{AsksFile, ClassifiesFile, InfersFile}
use Rattle.receiving.specs.Files.{Store, store}
use Rattle.telling.specs.Printing.{BehindProgress, Output, IsAnswered, IsTold, outputs}
use Rattle.telling.specs.Messages.{cannot_write}
use Rattle.cli.specs.Messages.{summary_text, version_text, IsClassifyText, classify_status}
use Rattle.receiving.specs.Lines.{RunsByLines}
use Rattle.receiving.specs.Messages.{IsLineTold}
use Rattle.speech.specs.Messages.{IsQuestionText, question_status}
use Rattle.cli.specs.Classifications.{IsFaultOf}
use Rattle.cli.specs.HeldTexts.{AreApart, AreOthersKept, HoldTexts, HoldTextsUntil}
use Rattle.receiving.specs.HeldTexts.{AreOtherFilesKept, Holds, HoldsPrefix, Stays}
use Rattle.session.specs.Classifications.{IsClassified}
use Rattle.session.specs.WrittenTexts.{Texts}
use Rattle.cli.specs.Speaking.{IsSessionRun}
use Rattle.cli.specs.declared.fault.ClassifyFault.{ClassifyFault}
use Rattle.cli.specs.declared.fault.ClassifyFault.TheVariants.{Io}
use Rattle.cli.specs.declared.fault.InferenceFault.{InferenceFault}
use Rattle.cli.specs.declared.fault.InferenceFault.TheVariants as inferring
use Rattle.device.specs.declared.device.Sink as sinks
use Rattle.program.specs.declared.limits.Limits.{Limits}
use Rattle.program.specs.declared.status.Status.{Status}
use Rattle.program.specs.declared.status.Status.TheVariants as statuses
use Rattle.session.specs.Run.{question_fault}
use Rattle.session.specs.TextAnswers as asking
use Rattle.session.specs.TextAnswers.{AnswersQuery, AnswersQuestion}
use Rattle.session.specs.declared.question_fault.QuestionFault.{QuestionFault}
use Rattle.system_files.specs.Contents.{Content}
use Rattle.system_files.specs.declared.files.Files as files
use Rattle.receiving.specs.Runs.{format_of, IsCheckRun, IsConvertRun}

-- ---- what the files hold behind a classification

-- what the files hold where the answer is a fault: all that they held where it came before the writing
abbrev pub AreLeft : Paths → Format → Limits → Bool → (content content' : Content) → ClassifyFault → Type 0
AreLeft paths format limits known content content' (Io n) =
    (summary : Summary) × (texts : Texts) × IsClassified limits.version format limits.max_bytes limits.max_facts (content paths.document.now) summary texts
    × (AreApart paths → HoldTextsUntil n known paths texts content content')
AreLeft paths format limits known content content' fault = (path : List ℕ) → Stays known (content path) (content' path)

-- ---- runs: what the answer of the call says, and how it is told

-- what an answer says of a classification in files: the document is classified, and each path holds its text; or why not
abbrev pub IsClassifyAnswer : Paths → Format → Limits → (known : Bool) → (content content' : Content) → Result Summary ClassifyFault → Type 0
IsClassifyAnswer paths format limits known content content' (Ok summary) =
    (texts : Texts) × IsClassified limits.version format limits.max_bytes limits.max_facts (content paths.document.now) summary texts × (AreApart paths → HoldTexts known paths texts content')
IsClassifyAnswer paths format limits known content content' (Err fault) =
    IsFaultOf limits.version format limits.max_bytes limits.max_facts (content paths.document.now) fault × AreLeft paths format limits known content content' fault

-- the answer is that of a classification in files, no other file is written, and a device is blamed only where it failed
pub record IsClassifyMade (paths : Paths) (format : Format) (limits : Limits) (s : Store) (content content' : Content) (answer : Result Summary ClassifyFault) : Type 0 where
  pub answered : IsClassifyAnswer paths format limits s.is_known content content' answer
  pub blames : ClassifiesFile s (content paths.document.now) answer
  pub others : AreOthersKept paths content content'

-- the counts are printed; or a fault is told
abbrev pub IsClassifyTold : Paths → Limits → Result Summary ClassifyFault → (old new : Output) → (status : ℕ) → Type 0
IsClassifyTold paths limits (Ok summary) old new status = IsAnswered old new (summary_text summary) statuses.Done status
IsClassifyTold paths limits (Err fault) old new status =
    (new.out ≡ old.out) × IsTold old.err new.err (IsClassifyText paths limits.max_bytes limits.max_facts fault) (classify_status fault) status

-- a run of `classify`
pub record IsClassifyRun (paths : Paths) (format : Format) (limits : Limits) (s : Store) (content content' : Content) (old new : Output) (status : ℕ) : Type 0 where
  pub answer : Result Summary ClassifyFault
  pub made : IsClassifyMade paths format limits s content content' answer
  pub told : IsClassifyTold paths limits answer old new status

-- what an answer says of the document, and of the file that is written
abbrev pub IsInferAnswer : (document output : List ℕ) → Limits → (known : Bool) → (content content' : Content) → Result Summary InferenceFault → Type 0
IsInferAnswer document output limits known content content' answer =
    IsInferenceAnswer limits (content document) (Holds known (content' output)) (HoldsPrefix known (content output) (content' output))
    (Stays known (content output) (content' output)) answer

-- the answer is that of an inference in files, no other file is written, and a device is blamed only where it failed
pub record IsInferMade (document output : List ℕ) (limits : Limits) (s : Store) (content content' : Content) (answer : Result Summary InferenceFault) : Type 0 where
  pub answered : IsInferAnswer document output limits s.is_known content content' answer
  pub blames : InfersFile s (content document) answer
  pub others : AreOtherFilesKept output content content'

-- the counts are printed; or a fault is told, as of a question about the document
abbrev pub IsInferTold : (document output : List ℕ) → Limits → Result Summary InferenceFault → (old new : Output) → (status : ℕ) → Type 0
IsInferTold document output limits (Ok summary) old new status = IsAnswered old new (summary_text summary) statuses.Done status
IsInferTold document output limits (Err (inferring.Run fault)) old new status =
    (new.out ≡ old.out) × IsTold old.err new.err (IsQuestionText document limits.max_bytes limits.max_facts (question_fault fault)) (question_status (question_fault fault)) status
IsInferTold document output limits (Err inferring.Unwritten) old new status = (new.out ≡ old.out) × IsTold old.err new.err (λ text. text ≡ cannot_write output) statuses.File status

-- a run of `infer`
pub record IsInferRun (document output : List ℕ) (limits : Limits) (s : Store) (content content' : Content) (old new : Output) (status : ℕ) : Type 0 where
  pub answer : Result Summary InferenceFault
  pub made : IsInferMade document output limits s content content' answer
  pub told : IsInferTold document output limits answer old new status

-- what an answer says of a question about a document: the text has this property; or why there is none
abbrev pub IsQuestionAnswer : (List ℕ → Type 0) → (QuestionFault → Type 0) → Result (Vec ℕ) QuestionFault → Type 0
IsQuestionAnswer Answers IsFault (Ok text) = Answers text.items
IsQuestionAnswer Answers IsFault (Err fault) = IsFault fault

-- the status that goes with a text: where classes are told that are unsatisfiable it is that of a rejection
abbrev pub text_status : Question → (text : List ℕ) → Status
text_status Unsatisfiable (byte ∷ text) = statuses.Rejected
text_status question text = statuses.Done

-- and that of an answer which is one
abbrev pub answer_status : Question → Result (Vec ℕ) QuestionFault → Status
answer_status question (Ok text) = text_status question text.items
answer_status question (Err fault) = statuses.Done

-- the text is printed, with this status; or a fault is told
abbrev pub IsQuestionTold : (path : List ℕ) → Limits → Status → Result (Vec ℕ) QuestionFault → (old new : Output) → (status : ℕ) → Type 0
IsQuestionTold path limits answered_with (Ok text) old new status = IsAnswered old new text.items answered_with status
IsQuestionTold path limits answered_with (Err fault) old new status =
    (new.out ≡ old.out) × IsTold old.err new.err (IsQuestionText path limits.max_bytes limits.max_facts fault) (question_status fault) status

-- a run that asks a question: its answer is printed, with names spelled so; or a fault is told
pub record IsAskRun (path : List ℕ) (question : Question) (spelling : Spelling) (limits : Limits) (s : Store) (content : Content) (old new : Output) (status : ℕ) : Type 0 where
  pub answer : Result (Vec ℕ) QuestionFault
  pub answered : IsQuestionAnswer (AnswersQuestion limits (content path) question spelling) (asking.IsFaultOf limits (content path) (names_in question)) answer
  pub blames : AsksFile s.reads_fail s.is_known (content path) answer
  pub told : IsQuestionTold path limits (answer_status question answer) answer old new status

-- a run of `query`: the classes above and below the expression that the text is, and its individuals, are printed, spelled so; or a fault is told
pub record IsQueryRun (path text : List ℕ) (spelling : Spelling) (limits : Limits) (s : Store) (content : Content) (old new : Output) (status : ℕ) : Type 0 where
  pub answer : Result (Vec ℕ) QuestionFault
  pub answered : IsQuestionAnswer (AnswersQuery limits (content path) text spelling) (asking.IsQueryFaultOf limits (content path) text) answer
  pub blames : AsksFile s.reads_fail s.is_known (content path) answer
  pub told : IsQuestionTold path limits statuses.Done answer old new status

-- a run of a command within the limits, whose faults are told without lines and columns
abbrev pub IsCommandRun : (told : Bool) → Command → Limits → Store → (content content' : Content) → (old new : Output) → (status : ℕ) → Type 0
IsCommandRun told (Classify paths number) limits s content content' old new status = IsClassifyRun paths (format_of number) limits s content content' old new status
IsCommandRun told (Check paths) limits s content content' old new status = IsCheckRun paths limits.version limits.max_bytes s content old new status
IsCommandRun told (Convert conversion) limits s content content' old new status = IsConvertRun conversion limits s content content' old new status
IsCommandRun told (Restrict document output) limits s content content' old new status = IsRestrictRun false document.now output.now limits s content content' old new status
IsCommandRun told (Infer document output) limits s content content' old new status = IsInferRun document.now output.now limits s content content' old new status
IsCommandRun told (Ask document question spelling) limits s content content' old new status = IsAskRun document.now question spelling limits s content old new status
IsCommandRun told (Query document expression spelling) limits s content content' old new status = IsQueryRun document.now expression.now spelling limits s content old new status
IsCommandRun told (Session document) limits s content content' old new status = IsSessionRun told document limits s content content' old new status

-- a run whose faults of trees are told with them where lines are asked for: those that a restriction reports
abbrev pub IsLinedRun : (lines told : Bool) → Command → Limits → Store → (content content' : Content) → (old new : Output) → (status : ℕ) → Type 0
IsLinedRun lines told (Restrict document output) limits s content content' old new status = IsRestrictRun lines document.now output.now limits s content content' old new status
IsLinedRun lines told command limits s content content' old new status = IsCommandRun told command limits s content content' old new status

-- whether the document is read before a run: where lines are asked for, but of a restriction, for which a fault of a tree is no refusal
abbrev pub reads_before : (lines : Bool) → Command → Bool
reads_before lines (Restrict document output) = false
reads_before lines command = lines

-- a run of the task, behind its progress; where it tells lines the document is read before
abbrev pub IsTaskRun : Task → Store → (content content' : Content) → (old new : Output) → (status : ℕ) → Type 0
IsTaskRun task s content content' old new status =
    RunsByLines (reads_before task.lines task.command) (document_of task.command) task.limits.version task.limits.max_bytes s content content' old new status
    (BehindProgress task.progress old (λ begun. IsLinedRun task.lines task.progress task.command task.limits s content content' begun new status))

-- a run of the program: of the task that the words ask for; or they ask for the version, which is told, and no file is written; or they ask
-- for nothing that the program does, which is told
abbrev pub IsPerformed : List Text → Store → (content content' : Content) → (old new : Output) → (status : ℕ) → Type 0
IsPerformed words s content content' old new status =
    ((task : Task) × IsTaskOf words task × IsTaskRun task s content content' old new status × ¬ AskForVersion words)
    ⊎ (Gives words invocations.Version × (content' ≡ content) × IsAnswered old new version_text statuses.Done status)
    ⊎ ((fault : LineFault) × Refuses words fault × (new.out ≡ old.out) × IsLineTold fault old.err new.err status)

-- a classification, a conversion, a restriction, an inference and a session write files
abbrev pub writes_files : Command → Bool
writes_files (Classify paths number) = true
writes_files (Convert conversion) = true
writes_files (Restrict document output) = true
writes_files (Infer document output) = true
writes_files (Session document) = true
writes_files command = false

-- the words ask for none of them
abbrev pub AskForNoFiles : List Text → Type 0
AskForNoFiles words = (task : Task) → IsTaskOf words task → writes_files task.command ≡ false

-- ---- runs, by files and the two outputs before and after

-- a run of a command
abbrev pub Runs : {F In Out O E : Type 0} → files.Ghosts F In Out → sinks.Ghosts O → sinks.Ghosts E → Command → Limits → (old new : F × O × E) → (status : ℕ) → Type 0
Runs F O E command limits old new status =
    IsCommandRun false command limits (store F old.0 new.0) (F.content old.0) (F.content new.0) (outputs O E old.1 old.2) (outputs O E new.1 new.2) status

-- a run of a command behind its progress
abbrev pub RunsTelling : {F In Out O E : Type 0} → files.Ghosts F In Out → sinks.Ghosts O → sinks.Ghosts E → (told : Bool) → Command → Limits → (old new : F × O × E) → (status : ℕ) → Type 0
RunsTelling F O E told command limits old new status =
    BehindProgress told (outputs O E old.1 old.2)
    (λ begun. IsCommandRun told command limits (store F old.0 new.0) (F.content old.0) (F.content new.0) begun (outputs O E new.1 new.2) status)

-- a run behind its progress whose faults are told by lines where these are asked for
abbrev pub RunsLined : {F In Out O E : Type 0} → files.Ghosts F In Out → sinks.Ghosts O → sinks.Ghosts E → (lines told : Bool) → Command → Limits → (old new : F × O × E) → (status : ℕ) → Type 0
RunsLined F O E lines told command limits old new status =
    BehindProgress told (outputs O E old.1 old.2)
    (λ begun. IsLinedRun lines told command limits (store F old.0 new.0) (F.content old.0) (F.content new.0) begun (outputs O E new.1 new.2) status)

-- a run of the task
abbrev pub RunsTask : {F In Out O E : Type 0} → files.Ghosts F In Out → sinks.Ghosts O → sinks.Ghosts E → Task → (old new : F × O × E) → (status : ℕ) → Type 0
RunsTask F O E task old new status =
    IsTaskRun task (store F old.0 new.0) (F.content old.0) (F.content new.0) (outputs O E old.1 old.2) (outputs O E new.1 new.2) status

-- a run of the program
abbrev pub Performs : {F In Out O E : Type 0} → files.Ghosts F In Out → sinks.Ghosts O → sinks.Ghosts E → List Text → (old new : F × O × E) → (status : ℕ) → Type 0
Performs F O E words old new status =
    IsPerformed words (store F old.0 new.0) (F.content old.0) (F.content new.0) (outputs O E old.1 old.2) (outputs O E new.1 new.2) status
