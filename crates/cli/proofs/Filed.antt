-- Texts of a session that are written into files, and conversations over files.
use Rattle.std.proofs.Common.{◌≡◌, ◌∙◌, ◌∷◌, ◌<◌, ◌&&◌, [], ℕ, List, Bool, true, false, Option, Some, None, Result, Ok, Err, ap, inl, inr, refl, subst, sym}
use Rattle.std.specs.Borrow.{Bor}
use Rattle.certificate.specs.declared.format.Format.{Format}
use Rattle.classification.specs.declared.classification.Summary.{Summary}
use Rattle.cli.proofs.Blamed.{AreCounted, AreWorking, none, untouched, written_none, written_some}
use Rattle.cli.proofs.SomeTexts.{acceptable_are_some}
use Rattle.cli.proofs.Stored.{AreNew, AreSinksClosed, nothing_stored, texts_held, texts_held_until}
use Rattle.cli.specs.Filing.{BlamesTexts, Filed, IsBegunIn, IsFiledBy, IsFiledIn, IsRunOn, IsTextsAnswer, filed, filing_service, is_run}
use Rattle.cli.specs.declared.filing.FileService.{FileService}
use Rattle.command_line.specs.declared.tasks.Paths.{Paths}
use Rattle.device.specs.declared.device.Sink as sinks
use Rattle.program.specs.declared.limits.Limits.{Limits}
use Rattle.program.specs.declared.status.Status.{Status}
use Rattle.program.specs.declared.version.Version.{Version}
use Rattle.session.proofs.Calls.{edits_are_one_document}
use Rattle.telling.proofs.Told.{progress_behind}
use Rattle.session.specs.Answers.{IsWritten}
use Rattle.telling.specs.Devices.{Device, seen}
use Rattle.session.specs.Edits.{Reply, Added, Resumed, Answered, Found, Entailed, Decided, Written, Inferred, Resume, IsCall, IsOneDocument, IsSessionOver}
use Rattle.telling.specs.Progress.{IsProgress}
use Rattle.session.specs.Sessions.{IsSession, KeepsText, Opened}
use Rattle.session.specs.WrittenTexts.{Sinks}
use Rattle.session.specs.declared.fault.WritingFault.{WritingFault}
use Rattle.session.specs.declared.fault.WritingFault.TheVariants.{Io, Memory, Unfinished}
use Rattle.source_lines.specs.Sources.{SourceState}
use Rattle.speech.proofs.SeenAs.{conversation_seen}
use Rattle.speech.proofs.Edits.{Does, Stays, before, does, passed_adds_none, unasked}
use Rattle.speech.specs.Answers.{session_service}
use Rattle.speech.specs.Commands.{writing_of}
use Rattle.speech.specs.Conversations.{AreExchanges, Exchange, IsAnswered, IsConversation, IsExchange}
use Rattle.speech.specs.Editing.{AreCallsOf, texts_added, told_added}
use Rattle.speech.specs.Replies.{Told, told}
use Rattle.speech.specs.declared.command.Command.{Command}
use Rattle.speech.specs.declared.command.Command.TheVariants as asked
use Rattle.speech.specs.declared.command.Writing.{Writing}
use Rattle.speech.specs.declared.command.Writing.TheVariants as writing
use Rattle.speech.specs.declared.conversation.Ending.{Ending}
use Rattle.speech.specs.declared.service.Service.{Ghosts}
use Rattle.speech.specs.declared.session_service.SessionService.{SessionService}
use Rattle.system_files.specs.Contents.{Content}
use Rattle.system_files.specs.declared.files.Files as files

-- ---- what is written

pub texts_answer : (paths : Paths) (format : Format) (known : Bool) (s : Opened) (content content' : Content) (old new : Sinks) (answer : Result Summary WritingFault) → AreNew known old → IsWritten s format old new answer → AreSinksClosed paths new content content'
    → IsTextsAnswer paths format known s content content' answer
texts_answer paths format known s content content' old new (Ok summary) fresh is closed =
    (is.0, is.1, λ apart. texts_held known paths old new is.0 content content' (acceptable_are_some s.ontology is.0 is.1.acceptable) fresh is.2 closed apart)
texts_answer paths format known s content content' old new (Err Unfinished) fresh is closed = (is.0, λ path. nothing_stored known paths old new content content' fresh is.1 closed path)
texts_answer paths format known s content content' old new (Err Memory) fresh is closed = λ path. nothing_stored known paths old new content content' fresh is.1 closed path
texts_answer paths format known s content content' old new (Err (Io n)) fresh is closed =
    let texts = is.2.1 in
    let made = is.2.2 in
    (is.0, is.1, (is.2.0, texts, made, λ apart. texts_held_until n known paths old new texts content content' (acceptable_are_some s.ontology texts made.acceptable) fresh is.2.3 closed apart))

pub texts_blamed : (s : Opened) (format : Format) (failed_before failed_behind : ℕ) (old new : Sinks) (answer : Result Summary WritingFault) → AreWorking old → AreCounted new failed_before failed_behind → IsWritten s format old new answer
    → BlamesTexts failed_before failed_behind answer
texts_blamed s format failed_before failed_behind old new (Ok summary) working counted is = written_none old new is.0 _ _ working counted is.2
texts_blamed s format failed_before failed_behind old new (Err Unfinished) working counted is = none new _ _ counted (untouched old new working is.1)
texts_blamed s format failed_before failed_behind old new (Err Memory) working counted is = none new _ _ counted (untouched old new working is.1)
texts_blamed s format failed_before failed_behind old new (Err (Io n)) working counted is = written_some n old new is.2.1 _ _ working counted is.2.3

-- ---- conversations

-- what answers commands over files that are borrowed
abbrev pub over : {F In Out E : Type 0} → files.Ghosts F In Out → sinks.Ghosts E → Ghosts (FileService F E In Out)
over G S = record { steps = IsFiledIn G S; room = λ s. session_service.room s.service.now }

-- it is over the same files, of the same document
pub record IsOver {F In Out E : Type 0} (G : files.Ghosts F In Out) (S : sinks.Ghosts E) (known told : Bool) (document : Bor (List ℕ)) (first s : FileService F E In Out) : Type 0 where
  pub known_is : G.is_known s.files.now ≡ known
  pub document_is : s.document ≡ document
  pub told_is : s.told ≡ told
  pub files_are : s.files.ghost_name ≡ first.files.ghost_name
  pub progress : IsProgress told (seen S first.err.now) (seen S s.err.now)
  pub err_is : s.err.ghost_name ≡ first.err.ghost_name

stays_over : {F In Out E : Type 0} (G : files.Ghosts F In Out) (S : sinks.Ghosts E) (known told : Bool) (document : Bor (List ℕ)) (first old new : FileService F E In Out) → new ≡ old → IsOver G S known told document first old → IsOver G S known told document first new
stays_over {F} {In} {Out} {E} G S known told document first old new same is = let P : FileService F E In Out → Type 0 = λ s. IsOver G S known told document first s in subst P (sym same) is

answered_over : {F In Out E : Type 0} (G : files.Ghosts F In Out) (S : sinks.Ghosts E) (known told : Bool) (document : Bor (List ℕ)) (first old new : FileService F E In Out) (command : Option Command) (payload : List ℕ) (t : Told)
    → IsOver G S known told document first old → IsAnswered (over G S) old command payload t new → IsAnswered (filing_service known told document) (filed G old) command payload t (filed G new) × IsOver G S known told document first new
answered_over {F} {In} {Out} {E} G S known told document first old new (Some command) payload t is (inl (room, step)) =
    let Files : Bool → Type 0 = λ k. IsFiledBy k old.told old.document (writing_of command) (filed G old) command payload t (filed G new) in
    let Telling : Bool → Type 0 = λ b. IsFiledBy known b old.document (writing_of command) (filed G old) command payload t (filed G new) in
    let Document : Bor (List ℕ) → Type 0 = λ d. IsFiledBy known told d (writing_of command) (filed G old) command payload t (filed G new) in
    let Progress : Bool → Type 0 = λ b. IsProgress b (seen S old.err.now) (seen S new.err.now) in (
      inl (room, subst Document is.document_is (subst Telling is.told_is (subst Files is.known_is step.step))),
      record {
        known_is = step.known ∙ is.known_is;
        document_is = step.document ∙ is.document_is;
        told_is = step.told ∙ is.told_is;
        files_are = step.files ∙ is.files_are;
        progress = progress_behind told _ _ _ is.progress (subst Progress is.told_is step.progress);
        err_is = step.err ∙ is.err_is;
      },
    )
answered_over G S known told document first old new (Some command) payload t is (inr (more, tells, same)) = (inr (more, tells, ap (filed G) same), stays_over G S known told document first old new same is)
answered_over G S known told document first old new None payload t is (tells, same) = ((tells, ap (filed G) same), stays_over G S known told document first old new same is)

exchange_over : {F In Out E : Type 0} (G : files.Ghosts F In Out) (S : sinks.Ghosts E) (known told : Bool) (document : Bor (List ℕ)) (first old new : FileService F E In Out) (x : Exchange)
    → IsOver G S known told document first old → IsExchange (over G S) old x new → IsExchange (filing_service known told document) (filed G old) x (filed G new) × IsOver G S known told document first new
exchange_over G S known told document first old new x is e =
    let answered = answered_over G S known told document first old new x.command x.payload x.reply is e.answered in
    (record { single = e.single; heard = e.heard; sized = e.sized; answered = answered.0 }, answered.1)

-- a conversation over files that are borrowed is one over what they hold, and the same files stay borrowed
pub conversation_over : {F In Out E : Type 0} (G : files.Ghosts F In Out) (S : sinks.Ghosts E) (known told : Bool) (document : Bor (List ℕ)) (first new : FileService F E In Out) (s t : SourceState) (sink sink' : Device) (ending : Ending)
    → IsOver G S known told document first first → IsConversation (over G S) first new s t sink sink' ending
    → IsConversation (filing_service known told document) (filed G first) (filed G new) s t sink sink' ending × IsOver G S known told document first new
conversation_over G S known told document first new s t sink sink' ending is talk =
    conversation_seen (over G S) (filing_service known told document) (filed G) (IsOver G S known told document first)
    (record { exchange = λ a x b here e. exchange_over G S known told document first a b x here e }) first new s t sink sink' ending is talk

-- it is one over what the files hold that are the same in the end
pub spoken_over : {F In Out : Type 0} (G : files.Ghosts F In Out) (known told : Bool) (document : Bor (List ℕ)) (old : Filed) (last : SessionService) (behind found : F) (s t : SourceState) (sink sink' : Device) (ending : Ending) → behind ≡ found
    → IsConversation (filing_service known told document) old (record { service = last; content = G.content behind; failed_writes = G.failed_writes behind }) s t sink sink' ending
    → IsConversation (filing_service known told document) old (record { service = last; content = G.content found; failed_writes = G.failed_writes found }) s t sink sink' ending
spoken_over {F} G known told document old last behind found s t sink sink' ending same is =
    let P : F → Type 0 = λ f. IsConversation (filing_service known told document) old (record { service = last; content = G.content f; failed_writes = G.failed_writes f }) s t sink sink' ending in
    subst P same is

-- what a sink tells, that is the same in the end
pub same_seen : {E : Type 0} (S : sinks.Ghosts E) (found behind : E) → found ≡ behind → seen S found ≡ seen S behind
same_seen S found behind same = ap (seen S) same

-- ---- slices of a run

-- progress of a part of what is told of is progress
pub part_told : (told part : Bool) (old new : Device) → IsProgress (told && part) old new → IsProgress told old new
part_told false part old new same = same
part_told true false old new same = ([], same)
part_told true true old new is = is

-- a slice behind others
pub run_on : (limits same : Limits) (old mid new : Opened) (most : ℕ) → same ≡ limits → IsRunOn limits old mid → most < same.max_facts → (reply : Reply) × IsCall mid (Resume most) reply new → IsSession new → IsRunOn limits old new
run_on limits same old mid new most is begun below (reply, call) session = IsRunOn.onward mid new most reply begun (subst (λ (l : Limits). most < l.max_facts) is below) call session

-- keeps what the session has of texts
kept_by : (mid new : Opened) (most : ℕ) (reply : Reply) → IsCall mid (Resume most) reply new → KeepsText mid new
kept_by mid new most (Added answer) call = absurd call
kept_by mid new most (Resumed answer) call = call.1
kept_by mid new most (Answered answer) call = absurd call
kept_by mid new most (Found answer) call = absurd call
kept_by mid new most (Entailed answer) call = absurd call
kept_by mid new most (Decided answer) call = absurd call
kept_by mid new most (Written after answer) call = absurd call
kept_by mid new most (Inferred answer) call = absurd call

pub kept_on : (old mid new : Opened) (most : ℕ) → KeepsText old mid → (reply : Reply) × IsCall mid (Resume most) reply new → KeepsText old new
kept_on old mid new most kept (reply, call) =
    let more = kept_by mid new most reply call in
    record { prefixes = more.prefixes ∙ kept.prefixes; bytes = more.bytes ∙ kept.bytes; most_bytes = more.most_bytes ∙ kept.most_bytes; version = more.version ∙ kept.version }

-- ---- conversations as calls

-- a command that writes adds nothing
adds_none : (command : Command) (writing : Writing) (status : Status) (payload : List ℕ) → writing_of command ≡ Some writing → told_added (Some command) status payload ≡ []
adds_none (asked.Add size) texts status payload is = absurd (cc)
adds_none asked.Run texts status payload is = refl
adds_none (asked.RunSome more) texts status payload is = refl
adds_none (asked.Ask question spelling) texts status payload is = refl
adds_none (asked.Query size) texts status payload is = refl
adds_none (asked.Entails size) texts status payload is = refl
adds_none (asked.Write paths) texts status payload is = refl
adds_none (asked.Infer path) texts status payload is = refl
adds_none (asked.Axiom number spelling) texts status payload is = refl
adds_none asked.Status texts status payload is = refl
adds_none asked.Version texts status payload is = refl

-- the calls by which a session is run on come before others
run_on_before : (limits : Limits) (old mid new : Opened) (xs : List Exchange) → IsRunOn limits old mid → AreCallsOf mid xs new → AreCallsOf old xs new
run_on_before limits old mid new xs IsRunOn.unmoved h = h
run_on_before limits old mid new xs (IsRunOn.onward before _ most reply begun below is session) h =
    run_on_before limits old before new xs begun (record {
      calls = Resume most ∷ h.calls;
      answers = reply ∷ h.answers;
      are = (mid, is, session, h.are);
      added = h.added;
    })

begun_before : (slices : Bool) (old begun : SessionService) (new : Opened) (xs : List Exchange) → IsBegunIn slices old begun → AreCallsOf begun.session xs new → AreCallsOf old.session xs new
begun_before false old begun new xs same h = let P : SessionService → Type 0 = λ s. AreCallsOf s.session xs new in subst P same h
begun_before true old begun new xs is h = run_on_before old.limits old.session begun.session new xs is.1 h

-- a command before other exchanges
one_answered : (known told : Bool) (document : Bor (List ℕ)) (found : Option Writing) (old mid : Filed) (new : Opened) (x : Exchange) (xs : List Exchange) (command : Command) → x.command ≡ Some command → writing_of command ≡ found
    → IsFiledBy known told document found old command x.payload x.reply mid → AreCallsOf mid.service.session xs new → AreCallsOf old.service.session (x ∷ xs) new
one_answered known told document (Some (writing.Texts texts)) old mid new x xs command is paths step h =
    let P : Option Command → Type 0 = λ c. Does old.service.session (told_added c x.reply.status x.payload) mid.service.session in
    before old.service.session mid.service.session new x xs step.session (subst P (sym is) (Stays (ap (λ s. s.session) step.service) (adds_none command (writing.Texts texts) x.reply.status x.payload paths))) h
one_answered known told document (Some (writing.Inferred path)) old mid new x xs command is paths step h =
    let P : Option Command → Type 0 = λ c. Does old.service.session (told_added c x.reply.status x.payload) mid.service.session in
    before old.service.session mid.service.session new x xs step.session (subst P (sym is) (Stays (ap (λ s. s.session) step.service) (adds_none command (writing.Inferred path) x.reply.status x.payload paths))) h
one_answered known told document None old mid new x xs command is paths step h =
    let P : Option Command → Type 0 = λ c. Does step.begun.session (told_added c x.reply.status x.payload) mid.service.session in
    begun_before (told && is_run command) old.service step.begun new (x ∷ xs) step.slices
    (before step.begun.session mid.service.session new x xs step.served.session (subst P (sym is) (does step.begun.limits step.begun.session mid.service.session command x.payload x.reply step.served.step)) h)

one_more : (known told : Bool) (document : Bor (List ℕ)) (old mid : Filed) (new : Opened) (x : Exchange) (xs : List Exchange) (command : Option Command) → x.command ≡ command
    → IsAnswered (filing_service known told document) old command x.payload x.reply mid → AreCallsOf mid.service.session xs new → AreCallsOf old.service.session (x ∷ xs) new
one_more known told document old mid new x xs (Some command) is (inl (room, answered)) h = one_answered known told document (writing_of command) old mid new x xs command is refl answered h
one_more known told document old mid new x xs (Some command) is (inr (more, tells, same)) h =
    unasked old.service.session mid.service.session new x xs (ap (λ (s : Filed). s.service.session) same) (passed_adds_none _ x.command x.payload x.reply tells) h
one_more known told document old mid new x xs None is (tells, same) h =
    let P : Option Command → Type 0 = λ c. told_added c x.reply.status x.payload ≡ [] in
    unasked old.service.session mid.service.session new x xs (ap (λ (s : Filed). s.service.session) same) (subst P (sym is) refl) h

pub calls_of : (known told : Bool) (document : Bor (List ℕ)) (old new : Filed) (xs : List Exchange) → AreExchanges (filing_service known told document) old xs new → AreCallsOf old.service.session xs new.service.session
calls_of known told document old new [] same = record { calls = []; answers = []; are = ap (λ (s : Filed). s.service.session) same; added = refl }
calls_of known told document old new (x ∷ xs) (mid, is, later) = one_more known told document old mid new.service.session x xs x.command refl is.answered (calls_of known told document mid new xs later)

pub one_document : (known told : Bool) (document : Bor (List ℕ)) (version : Version) (bytes : List ℕ) (old new : Filed) (xs : List Exchange) → IsSessionOver version bytes old.service.session
    → AreExchanges (filing_service known told document) old xs new → IsOneDocument version bytes (texts_added xs) new.service.session
one_document known told document version bytes old new xs opened exchanges =
    let calls = calls_of known told document old new xs exchanges in
    subst (λ (texts : List (List ℕ)). IsOneDocument version bytes texts new.service.session) calls.added
    (edits_are_one_document version bytes old.service.session new.service.session calls.calls calls.answers opened calls.are)
