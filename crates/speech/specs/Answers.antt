-- What is told of the calls of a session.
use Rattle.std.specs.Prelude.{◌≡◌, ◌++◌, ◌+◌, ◌-◌, ◌<◌, ◌⊎◌, ℕ, List, [], Bool, true, false, Option, Some, None, Result, Ok, Err, codes, length, min, option_map}
use Rattle.std.specs.Fmt.{decimal}
use Rattle.std.specs.Str.{IsUtf8, IsValidUpTo}
use Rattle.std.specs.Global.{Vec}
use Rattle.std.specs.String.{string_bytes}
use Rattle.answer_texts.specs.Axioms.{axiom_line}
use Rattle.answers.specs.declared.answer.Answer.{Answer}
use Rattle.axioms.specs.Ontology.{Ontology}
use Rattle.axioms.specs.View.{at_number}
use Rattle.inference.specs.declared.known_facts.Stop.{Stop}
use Rattle.inference.specs.declared.known_facts.Stop.TheVariants as stops
use Rattle.profile.specs.declared.fault.DocumentFault.TheVariants as reading
use Rattle.profile.specs.declared.fault.DocumentFault.TheVariants.{NotUtf8}
use Rattle.program.specs.declared.limits.Limits.{Limits}
use Rattle.program.specs.declared.question.Question.{Question}
use Rattle.program.specs.declared.question.Spelling.{Spelling}
use Rattle.program.specs.declared.release.TheConstants.{VERSION}
use Rattle.program.specs.declared.status.Status.TheVariants as statuses
use Rattle.session.specs.Answers.{IsConsistency}
use Rattle.session.specs.Edits.{Call, Reply, Add, Resume, Ask, Query, Entail, Added, Resumed, Answered, Found, Entailed, IsCall, added}
use Rattle.session.specs.Queries.{NamesFound, names_in}
use Rattle.session.specs.Sessions.{IsSession, Opened}
use Rattle.session.specs.TextAnswers.{IsSpelledAnswer, query_lines}
use Rattle.session.specs.declared.entails_fault.EntailsFault.{EntailsFault}
use Rattle.session.specs.declared.entails_fault.EntailsFault.TheVariants as entailing
use Rattle.session.specs.declared.fault.AskFault.{AskFault}
use Rattle.session.specs.declared.fault.AskFault.TheVariants as asking
use Rattle.session.specs.declared.querying.Answers.{Answers}
use Rattle.session.specs.declared.query_fault.QueryFault.{QueryFault}
use Rattle.session.specs.declared.query_fault.QueryFault.TheVariants as querying
use Rattle.session.specs.declared.question_fault.QuestionFault.{QuestionFault}
use Rattle.session.specs.declared.question_fault.QuestionFault.TheVariants as faults
use Rattle.short_names.specs.Spellings.{IsSpelled}
use Rattle.speech.specs.Messages.{IsQuestionText, question_status}
use Rattle.speech.specs.Replies.{Told, out_of_memory, told}
use Rattle.speech.specs.declared.command.Command as commands
use Rattle.speech.specs.declared.command.Command.TheVariants as asked
use Rattle.speech.specs.declared.reply.Reply as replies
use Rattle.speech.specs.declared.service.Service.{Ghosts}
use Rattle.speech.specs.declared.session_service.SessionService.{SessionService}

-- ---- what is told

-- a reply of this kind; or there is none, where memory was refused for it
abbrev pub Tells : {X : Type 0} → (Told → Type 0) → Result replies.Reply X → Type 0
Tells P (Ok reply) = P (told reply.status reply.text.items)
Tells P (Err refused) = Unit {0}

-- that a command was done, with its answer
abbrev pub done : List ℕ → Told
done text = told statuses.Done text

-- the same with a text, where there is one
abbrev pub IsDoneWith : {X : Type 0} → Result (Vec ℕ) X → Told → Type 0
IsDoneWith (Ok text) t = t ≡ done text.items
IsDoneWith (Err refused) t = ⊥

-- that facts are pending
abbrev pub unfinished : Told
unfinished = told statuses.Usage (codes "not run to its end\n")

-- that there are no files into which texts could be written
abbrev pub unfiled : Told
unfiled = told statuses.Usage (codes "no files are written here\n")

-- the text and the status of the program where a question is not answered
abbrev pub IsFaultTold : Limits → QuestionFault → Told → Type 0
IsFaultTold limits fault t = IsQuestionText [] limits.max_bytes limits.max_facts fault t.text × (t.status ≡ question_status fault)

-- likewise of a question to a session
abbrev pub IsAskTold : Limits → AskFault → Told → Type 0
IsAskTold limits asking.Unfinished t = t ≡ unfinished
IsAskTold limits (asking.UnknownName name) t = IsFaultTold limits (faults.UnknownName name) t
IsAskTold limits asking.Memory t = t ≡ out_of_memory

abbrev pub IsQueryTold : Limits → QueryFault → Told → Type 0
IsQueryTold limits querying.Unfinished t = t ≡ unfinished
IsQueryTold limits (querying.Expression fault) t = IsFaultTold limits (faults.Expression fault) t
IsQueryTold limits querying.Limit t = IsFaultTold limits faults.Limit t
IsQueryTold limits querying.Memory t = t ≡ out_of_memory

-- that the session lacks the name
abbrev pub unknown_told : List ℕ → Told
unknown_told name = told statuses.Usage (codes "unknown name <" ++ (name ++ codes ">\n"))

abbrev pub IsEntailsTold : Limits → EntailsFault → Told → Type 0
IsEntailsTold limits entailing.Unfinished t = t ≡ unfinished
IsEntailsTold limits (entailing.Statements fault) t = IsFaultTold limits (faults.Expression fault) t
IsEntailsTold limits (entailing.UnknownName name) t = t ≡ unknown_told (string_bytes name)
IsEntailsTold limits entailing.TooManyNames t = IsFaultTold limits (faults.Expression reading.TooManyNames) t
IsEntailsTold limits entailing.Limit t = IsFaultTold limits faults.Limit t
IsEntailsTold limits entailing.Memory t = t ≡ out_of_memory

-- what is told of the answer to a question, with names that are spelled so, or where there is none
abbrev pub IsAnsweredTold : Limits → Opened → Question → Spelling → Result Answer AskFault → Told → Type 0
IsAnsweredTold limits s question spelling (Ok answer) t = IsSpelledAnswer s.prefixes spelling s.ontology question answer t.text × (t.status ≡ statuses.Done)
IsAnsweredTold limits s question spelling (Err fault) t = IsAskTold limits fault t

-- and of the names of a class expression
abbrev pub IsFoundTold : Limits → Result NamesFound QueryFault → Told → Type 0
IsFoundTold limits (Ok found) t = t ≡ done (query_lines found)
IsFoundTold limits (Err fault) t = IsQueryTold limits fault t

-- whether axioms follow, as a word
abbrev pub entailment : Bool → List ℕ
entailment true = codes "yes\n"
entailment false = codes "no\n"

abbrev pub IsEntailedTold : Limits → Result Bool EntailsFault → Told → Type 0
IsEntailedTold limits (Ok entailed) t = t ≡ done (entailment entailed)
IsEntailedTold limits (Err fault) t = IsEntailsTold limits fault t

-- the names that a query gives
abbrev pub found : Result Answers QueryFault → Result NamesFound QueryFault
found (Ok answers) = Ok (names_in answers)
found (Err fault) = Err fault

-- whether the axioms hold in some finite interpretation, as a word
abbrev pub consistency : Bool → List ℕ
consistency true = codes "consistent"
consistency false = codes "inconsistent"

-- the lines of the counts, and of that word
abbrev pub run_text : Opened → (consistent : Bool) → List ℕ
run_text s consistent = codes "facts " ++ (decimal (length s.saturation.state.facts) ++ (codes "\n" ++ (consistency consistent ++ codes "\n")))

abbrev pub status_text : Opened → List ℕ
status_text s =
    codes "facts " ++ (decimal (length s.saturation.state.facts) ++ (codes " served " ++ (decimal (length s.saturation.state.served) ++ (codes " bytes " ++ (decimal s.bytes ++ codes "\n")))))

-- that of both counts where a run stopped
abbrev pub stop_text : Opened → List ℕ
stop_text s = codes "facts " ++ (decimal (length s.saturation.state.facts) ++ (codes " served " ++ (decimal (length s.saturation.state.served) ++ codes "\n")))

-- the lines of the versions of the language and of the program
abbrev pub version_text : List ℕ
version_text = codes "elc session 1\nelc " ++ (VERSION.now ++ codes "\n")

-- the line of the axiom of that number, if there is one
abbrev pub axiom_at : Ontology → (number : ℕ) → Option (List ℕ)
axiom_at o number = option_map (axiom_line o) (at_number o.axioms number)

-- that there is none
abbrev pub no_axiom_told : (number : ℕ) → Told
no_axiom_told number = told statuses.Usage (codes "no axiom " ++ (decimal number ++ codes "\n"))

-- what is told of it, with names that are spelled so, or that there is none
abbrev pub IsLineTold : Opened → Spelling → (number : ℕ) → Option (List ℕ) → Told → Type 0
IsLineTold s spelling number (Some line) t = IsSpelled spelling s.prefixes false line t.text × (t.status ≡ statuses.Done)
IsLineTold s spelling number None t = t ≡ no_axiom_told number

abbrev pub IsAxiomTold : Opened → (number : ℕ) → Spelling → Told → Type 0
IsAxiomTold s number spelling t = IsLineTold s spelling number (axiom_at s.ontology number) t

-- what is told of a run that came to its end: how many facts there are, and whether the axioms contradict one another
abbrev pub IsEndTold : Opened → Told → Type 0
IsEndTold s t = (consistent : Bool) × IsConsistency s.ontology consistent × (t ≡ done (run_text s consistent))

-- what is told where a run stopped at so many facts: that this is the limit, or below it the counts
abbrev pub IsStopTold : Limits → (end : ℕ) → Opened → Told → Type 0
IsStopTold limits end s t = ((end ≡ limits.max_facts) × IsFaultTold limits faults.Limit t) ⊎ ((end < limits.max_facts) × (t ≡ told statuses.Limit (stop_text s)))

-- what is told of a run that may go on to so many facts
abbrev pub IsRunTold : Limits → (end : ℕ) → Opened → Result (Unit {0}) Stop → Told → Type 0
IsRunTold limits end s (Ok _) t = IsEndTold s t
IsRunTold limits end s (Err stops.Limit) t = IsStopTold limits end s t
IsRunTold limits end s (Err stops.Memory) t = t ≡ out_of_memory

-- what is told of an addition, of the names of a class expression, and of axioms that may follow
abbrev pub IsAnswerTold : Limits → Reply → Told → Type 0
IsAnswerTold limits (Added (Ok _)) t = t ≡ done []
IsAnswerTold limits (Added (Err fault)) t = IsFaultTold limits (faults.Expression fault) t
IsAnswerTold limits (Found answer) t = IsFoundTold limits answer t
IsAnswerTold limits (Entailed answer) t = IsEntailedTold limits answer t
IsAnswerTold limits reply t = ⊥

-- ---- what is done

-- the call is made of the session, and what it answers is told; or, where it added nothing, that there was no memory for the reply
pub record IsCalled (limits : Limits) (call : Call) (old : Opened) (t : Told) (new : Opened) : Type 0 where
  pub reply : Reply
  pub called : IsCall old call reply new
  pub answer : IsAnswerTold limits reply t ⊎ ((added call reply ≡ []) × (t ≡ out_of_memory))

-- up to how many facts a run goes on that may draw so many more than there are, within the limit
abbrev pub run_end : Limits → Opened → (more : ℕ) → ℕ
run_end limits s more = min limits.max_facts (length s.saturation.state.facts + more)

-- the session is run on, to at most so many facts, and what came of it is told
pub record IsRunTo (limits : Limits) (end : ℕ) (old : Opened) (t : Told) (new : Opened) : Type 0 where
  pub result : Result (Unit {0}) Stop
  pub called : IsCall old (Resume end) (Resumed result) new
  pub answer : IsRunTold limits end new result t ⊎ (t ≡ out_of_memory)

-- the question is asked of the session, and its answer is told with names that are spelled so
pub record IsAsked (limits : Limits) (question : Question) (spelling : Spelling) (old : Opened) (t : Told) (new : Opened) : Type 0 where
  pub result : Result Answer AskFault
  pub called : IsCall old (Ask question) (Answered result) new
  pub answer : IsAnsweredTold limits new question spelling result t ⊎ (t ≡ out_of_memory)

-- nothing is done, and this is told, or that there was no memory for it
abbrev pub IsSaid : (Told → Type 0) → (old : Opened) → Told → (new : Opened) → Type 0
IsSaid P old t new = (new ≡ old) × (P t ⊎ (t ≡ out_of_memory))

-- bytes that are text are what the call is made with; that others are none is told
abbrev pub IsTextCalled : Limits → (call : List ℕ → Call) → (payload : List ℕ) → (old : Opened) → Told → (new : Opened) → Type 0
IsTextCalled limits call payload old t new =
    IsCalled limits (call payload) old t new
    ⊎ ((at : ℕ) × (IsUtf8 payload → ⊥) × IsValidUpTo payload at × IsSaid (IsFaultTold limits (faults.Expression (NotUtf8 at))) old t new)

-- what a command does to a session, and what is told
abbrev pub IsStep : Limits → (old : Opened) → commands.Command → (payload : List ℕ) → Told → (new : Opened) → Type 0
IsStep limits old (asked.Add size) payload t new = IsTextCalled limits Add payload old t new
IsStep limits old asked.Run payload t new = IsRunTo limits limits.max_facts old t new
IsStep limits old (asked.RunSome more) payload t new = IsRunTo limits (run_end limits old more) old t new
IsStep limits old (asked.Ask question spelling) payload t new = IsAsked limits question spelling old t new
IsStep limits old (asked.Query size) payload t new = IsTextCalled limits (λ text. Query text limits.max_facts) payload old t new
IsStep limits old (asked.Entails size) payload t new = IsTextCalled limits (λ text. Entail text limits.max_facts) payload old t new
IsStep limits old (asked.Write paths) payload t new = IsSaid (λ t. t ≡ unfiled) old t new
IsStep limits old (asked.Infer path) payload t new = IsSaid (λ t. t ≡ unfiled) old t new
IsStep limits old (asked.Axiom number spelling) payload t new = IsSaid (IsAxiomTold old number spelling) old t new
IsStep limits old asked.Status payload t new = IsSaid (λ t. t ≡ done (status_text old)) old t new
IsStep limits old asked.Version payload t new = IsSaid (λ t. t ≡ done version_text) old t new

-- the same of a session with its limits, which stay
pub record IsServed (old : SessionService) (command : commands.Command) (payload : List ℕ) (t : Told) (new : SessionService) : Type 0 where
  pub step : IsStep old.limits old.session command payload t new.session
  pub limits : new.limits ≡ old.limits
  pub session : IsSession new.session

-- what a session says as what answers commands: as many bytes may follow as it may still have
abbrev pub session_service : Ghosts SessionService
session_service = record { steps = IsServed; room = λ s. s.session.most_bytes - s.session.bytes }
