-- A session that answers commands, over files into which it writes its texts.
use Rattle.std.specs.Prelude.{◌≡◌, ◌≤◌, ◌<◌, ◌⊎◌, ◌&&◌, ℕ, List, [], Bool, true, false, Option, Some, None, Result, Ok, Err}
use Rattle.std.specs.Borrow.{Bor}
use Rattle.certificate.specs.declared.format.Format.{Format}
use Rattle.certificate.specs.declared.format.Format.TheVariants.{Two}
use Rattle.classification.specs.declared.classification.Summary.{Summary}
use Rattle.cli.specs.HeldTexts.{AreApart, AreOthersKept, HoldTexts, HoldTextsUntil}
use Rattle.receiving.specs.HeldTexts.{AreOtherFilesKept, Holds, HoldsPrefix, Stays}
use Rattle.telling.specs.Messages.{cannot_write}
use Rattle.cli.specs.Messages.{summary_text, written_path}
use Rattle.cli.specs.declared.filing.FileService.{FileService}
use Rattle.command_line.specs.declared.tasks.Paths.{Paths}
use Rattle.device.specs.Device.{HasFailed}
use Rattle.device.specs.declared.device.Sink as sinks
use Rattle.engine.specs.Saturations.{IsFinished}
use Rattle.program.specs.declared.limits.Limits.{Limits}
use Rattle.program.specs.declared.status.Status.{Status}
use Rattle.program.specs.declared.status.Status.TheVariants as statuses
use Rattle.program.specs.declared.version.Version.{Version}
use Rattle.session.specs.Answers.{IsMade}
use Rattle.telling.specs.Devices.{seen}
use Rattle.session.specs.Edits.{Reply, IsCall, IsOneDocument, IsSessionOver, Resume}
use Rattle.session.specs.Inferences.{IsInferred}
use Rattle.telling.specs.Progress.{IsProgress}
use Rattle.session.specs.Sessions.{IsSession, Opened}
use Rattle.session.specs.WrittenTexts.{Texts}
use Rattle.session.specs.declared.fault.WritingFault.{WritingFault}
use Rattle.session.specs.declared.fault.WritingFault.TheVariants.{Io, Memory, Unfinished}
use Rattle.speech.specs.Answers.{IsServed, session_service, unfinished}
use Rattle.speech.specs.Commands.{writing_of}
use Rattle.speech.specs.Conversations.{AreExchanges, Exchange}
use Rattle.speech.specs.Editing.{AreCallsOf, texts_added}
use Rattle.speech.specs.Replies.{Told, out_of_memory, told}
use Rattle.speech.specs.declared.command.Command.{Command}
use Rattle.speech.specs.declared.command.Command.TheVariants as asked
use Rattle.speech.specs.declared.command.TextPaths.{TextPaths}
use Rattle.speech.specs.declared.command.Writing.{Writing}
use Rattle.speech.specs.declared.command.Writing.TheVariants as written
use Rattle.speech.specs.declared.service.Service.{Ghosts}
use Rattle.speech.specs.declared.session_service.SessionService.{SessionService}
use Rattle.system_files.specs.Contents.{Content}
use Rattle.system_files.specs.declared.files.Files as files

-- ---- what is written

-- all files hold what they held, as far as it is known what files hold
abbrev pub AllStay : Bool → (content content' : Content) → Type 0
AllStay known content content' = (path : List ℕ) → Stays known (content path) (content' path)

-- what an answer says of the texts of a session that are written into files: each path holds its text; or why not, and what the files hold then
abbrev pub IsTextsAnswer : Paths → Format → (known : Bool) → Opened → (content content' : Content) → Result Summary WritingFault → Type 0
IsTextsAnswer paths format known s content content' (Ok summary) = (texts : Texts) × IsMade s format summary texts × (AreApart paths → HoldTexts known paths texts content')
IsTextsAnswer paths format known s content content' (Err Unfinished) = ¬ IsFinished s.saturation × AllStay known content content'
IsTextsAnswer paths format known s content content' (Err Memory) = AllStay known content content'
IsTextsAnswer paths format known s content content' (Err (Io n)) =
    (1 ≤ n) × (n ≤ 3) × ((summary : Summary) × (texts : Texts) × IsMade s format summary texts × (AreApart paths → HoldTextsUntil n known paths texts content content'))

-- a write failed only where that is the answer
abbrev pub BlamesTexts : (failed_before failed_behind : ℕ) → Result Summary WritingFault → Type 0
BlamesTexts before behind (Err (Io n)) = HasFailed before behind
BlamesTexts before behind answer = behind ≡ before

-- the answer is that of a session whose texts are written into files, no other file is written, and a write is blamed only where one failed
pub record AreTextsFiled (paths : Paths) (format : Format) (known : Bool) (s : Opened) (content content' : Content) (failed_before failed_behind : ℕ) (answer : Result Summary WritingFault) : Type 0 where
  pub answered : IsTextsAnswer paths format known s content content' answer
  pub blames : BlamesTexts failed_before failed_behind answer
  pub others : AreOthersKept paths content content'

-- what an answer says of what a session infers that is written into a file: it holds the text; or why not, and what it holds then
abbrev pub IsInferredAnswer : (path : List ℕ) → (known : Bool) → Opened → (content content' : Content) → Result Summary WritingFault → Type 0
IsInferredAnswer path known s content content' (Ok summary) = IsFinished s.saturation × ((text : List ℕ) × IsInferred s.ontology summary text × Holds known (content' path) text)
IsInferredAnswer path known s content content' (Err Unfinished) = ¬ IsFinished s.saturation × AllStay known content content'
IsInferredAnswer path known s content content' (Err Memory) = AllStay known content content'
IsInferredAnswer path known s content content' (Err (Io n)) =
    IsFinished s.saturation × ((summary : Summary) × (text : List ℕ) × IsInferred s.ontology summary text × HoldsPrefix known (content path) (content' path) text)

-- the answer is that of a session of which what it infers is written into a file, no other file is written, and a write is blamed only where
-- one failed
pub record IsInferenceFiled (path : List ℕ) (known : Bool) (s : Opened) (content content' : Content) (failed_before failed_behind : ℕ) (answer : Result Summary WritingFault) : Type 0 where
  pub answered : IsInferredAnswer path known s content content' answer
  pub blames : BlamesTexts failed_before failed_behind answer
  pub others : AreOtherFilesKept path content content'

-- ---- what is told

-- the text with the status; or the status alone, where there was no memory for the text
abbrev pub IsToldAs : Status → (text : List ℕ) → Told → Type 0
IsToldAs status text t = (t ≡ told status text) ⊎ (t ≡ told status [])

-- the line of the counts, or why nothing or not all is written, and then at which path not; without memory for a reply it is not told that
-- something is not written that is
abbrev pub IsFiledTold : (path : List ℕ) → Result Summary WritingFault → Told → Type 0
IsFiledTold path (Ok summary) t = IsToldAs statuses.Done (summary_text summary) t
IsFiledTold path (Err Unfinished) t = (t ≡ unfinished) ⊎ (t ≡ out_of_memory)
IsFiledTold path (Err Memory) t = t ≡ out_of_memory
IsFiledTold path (Err (Io n)) t = IsToldAs statuses.File (cannot_write path) t

-- the path of the text that was not written, if that is the answer
abbrev pub blamed_path : Paths → Result Summary WritingFault → List ℕ
blamed_path paths (Err (Io n)) = written_path paths n
blamed_path paths answer = []

-- ---- commands

-- a session with its limits, what the files hold, and how many writes of them have failed
pub record Filed : Type 0 where
  pub service : SessionService
  pub content : Content
  pub failed_writes : ℕ

-- the paths of the document and of the texts
abbrev pub paths_of : (document : Bor (List ℕ)) → TextPaths → Paths
paths_of document texts = record { document = document; taxonomy = texts.taxonomy; instances = texts.instances; certificate = texts.certificate }

-- the texts are written into the files at the paths, which is told; the session stays as it is
pub record IsFiling (known : Bool) (paths : Paths) (old : Filed) (t : Told) (new : Filed) : Type 0 where
  pub answer : Result Summary WritingFault
  pub filed : AreTextsFiled paths Two known old.service.session old.content new.content old.failed_writes new.failed_writes answer
  pub told : IsFiledTold (blamed_path paths answer) answer t
  pub service : new.service ≡ old.service
  pub session : IsSession new.service.session

-- what is inferred is written into the file at the path, which is told; the session stays as it is
pub record IsInferring (known : Bool) (path : List ℕ) (old : Filed) (t : Told) (new : Filed) : Type 0 where
  pub answer : Result Summary WritingFault
  pub filed : IsInferenceFiled path known old.service.session old.content new.content old.failed_writes new.failed_writes answer
  pub told : IsFiledTold path answer t
  pub service : new.service ≡ old.service
  pub session : IsSession new.service.session

-- the session is run on by calls that allow fewer facts than the limit, one behind the other
pub data IsRunOn (limits : Limits) (old : Opened) : Opened → Type 0 where
  unmoved : IsRunOn limits old old
  onward : (mid new : Opened) (most : ℕ) (reply : Reply) → IsRunOn limits old mid → most < limits.max_facts → IsCall mid (Resume most) reply new → IsSession new → IsRunOn limits old new

-- the command finds out what follows
abbrev pub is_run : Command → Bool
is_run asked.Run = true
is_run command = false

-- what is done before a command is answered: where progress is told of it, the session is run on in slices, and else nothing
abbrev pub IsBegunIn : (slices : Bool) → (old begun : SessionService) → Type 0
IsBegunIn false old begun = begun ≡ old
IsBegunIn true old begun = (begun.limits ≡ old.limits) × IsRunOn old.limits old.session begun.session

-- the session alone answers, a run behind slices of it where progress is told, and the files stay as they are
pub record IsServedAlone (told : Bool) (old : Filed) (command : Command) (payload : List ℕ) (t : Told) (new : Filed) : Type 0 where
  pub begun : SessionService
  pub slices : IsBegunIn (told && is_run command) old.service begun
  pub served : IsServed begun command payload t new.service
  pub content : new.content ≡ old.content
  pub failed_writes : new.failed_writes ≡ old.failed_writes

-- what a command does that asks to write this, if it asks for that
abbrev pub IsFiledBy : (known told : Bool) → (document : Bor (List ℕ)) → Option Writing → (old : Filed) → Command → (payload : List ℕ) → Told → (new : Filed) → Type 0
IsFiledBy known told document (Some (written.Texts texts)) old command payload t new = IsFiling known (paths_of document texts) old t new
IsFiledBy known told document (Some (written.Inferred path)) old command payload t new = IsInferring known path.now old t new
IsFiledBy known told document None old command payload t new = IsServedAlone told old command payload t new

-- what a session over files says as what answers commands, where progress is told or not
abbrev pub filing_service : (known told : Bool) → (document : Bor (List ℕ)) → Ghosts Filed
filing_service known told document = record {
  steps = λ old command payload t new. IsFiledBy known told document (writing_of command) old command payload t new;
  room = λ s. session_service.room s.service;
}

-- ---- sessions over files that are borrowed

-- what the words of their trait tell of the files
abbrev pub filed : {F In Out E : Type 0} → files.Ghosts F In Out → FileService F E In Out → Filed
filed F s = record { service = s.service.now; content = F.content s.files.now; failed_writes = F.failed_writes s.files.now }

-- what a command does, to the same files, and what is told of it on the way, to the same sink
pub record IsFiledIn {F In Out E : Type 0} (G : files.Ghosts F In Out) (S : sinks.Ghosts E) (old : FileService F E In Out) (command : Command) (payload : List ℕ) (t : Told) (new : FileService F E In Out) : Type 0 where
  pub step : IsFiledBy (G.is_known old.files.now) old.told old.document (writing_of command) (filed G old) command payload t (filed G new)
  pub document : new.document ≡ old.document
  pub told : new.told ≡ old.told
  pub known : G.is_known new.files.now ≡ G.is_known old.files.now
  pub files : new.files.ghost_name ≡ old.files.ghost_name
  pub progress : IsProgress old.told (seen S old.err.now) (seen S new.err.now)
  pub err : new.err.ghost_name ≡ old.err.ghost_name

-- ---- laws

-- whatever is asked: it is calls of the session, one after the other, and writing is none that adds
abbrev pub FiledConversationsAreCalls : Type 0
FiledConversationsAreCalls =
    (known told : Bool) (document : Bor (List ℕ)) (old new : Filed) (xs : List Exchange) → AreExchanges (filing_service known told document) old xs new →
    AreCallsOf old.service.session xs new.service.session

-- so what is there is what the document states with the texts that are told to be added
abbrev pub FiledConversationsAreOneDocument : Type 0
FiledConversationsAreOneDocument =
    (known told : Bool) (document : Bor (List ℕ)) (version : Version) (bytes : List ℕ) (old new : Filed) (xs : List Exchange) → IsSessionOver version bytes old.service.session →
    AreExchanges (filing_service known told document) old xs new → IsOneDocument version bytes (texts_added xs) new.service.session
