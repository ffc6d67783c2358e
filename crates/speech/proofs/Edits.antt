-- Exchanges as calls of a session.
use Rattle.std.proofs.Common.{◌≡◌, ◌⊎◌, ◌++◌, ◌∷◌, [], ℕ, List, Option, Some, None, Ok, Err, inl, inr, refl, sym, ap, ap₂, ◌∙◌, subst}
use Rattle.program.specs.declared.limits.Limits.{Limits}
use Rattle.program.specs.declared.status.Status.{Status}
use Rattle.program.specs.declared.status.Status.TheVariants as statuses
use Rattle.program.specs.declared.version.Version.{Version}
use Rattle.profile.specs.Messages.{status_of}
use Rattle.profile.specs.declared.fault.DocumentFault.{DocumentFault}
use Rattle.profile.specs.declared.fault.DocumentFault.TheVariants as reading
use Rattle.session.proofs.Calls.{edits_are_one_document}
use Rattle.telling.specs.Devices.{Device}
use Rattle.session.specs.Edits as calls
use Rattle.session.specs.Edits.{Call, Reply, Add, Added, Resumed, Answered, Found, Entailed, Decided, Written, Inferred, AreCalls, IsCall, IsOneDocument, IsSessionOver, added}
use Rattle.session.specs.Sessions.{IsSession, Opened}
use Rattle.session.specs.declared.question_fault.QuestionFault.TheVariants as faults
use Rattle.speech.specs.Answers.{IsAnswerTold, IsFaultTold, IsStep, run_end, session_service}
use Rattle.source_lines.specs.Sources.{SourceState}
use Rattle.speech.specs.Conversations.{AreExchanges, Exchange, IsAnswered, IsConversation}
use Rattle.speech.specs.Wholes.{IsExchanged}
use Rattle.speech.proofs.Exchanging.{exchanged}
use Rattle.speech.specs.Editing.{AreCallsOf, texts_added, told_added}
use Rattle.speech.specs.Replies.{Told, out_of_memory, too_large}
use Rattle.speech.specs.declared.command.Command.{Command}
use Rattle.speech.specs.declared.command.Command.TheVariants as asked
use Rattle.speech.specs.declared.conversation.Ending.{Ending}
use Rattle.speech.specs.declared.session_service.SessionService.{SessionService}

-- a call is made, which adds these texts; or none is, and nothing changes
pub data Does (old : Opened) (texts : List (List ℕ)) (new : Opened) : Type 0 where
  Calls : (call : Call) (reply : Reply) → IsCall old call reply new → added call reply ≡ texts → Does old texts new
  Stays : new ≡ old → texts ≡ [] → Does old texts new

-- where a fault is told, no text is told to be added
untold : (size : ℕ) (payload : List ℕ) (fault : DocumentFault) → told_added (Some (asked.Add size)) (status_of fault) payload ≡ []
untold size payload (reading.NotUtf8 at) = refl
untold size payload reading.TooLarge = refl
untold size payload reading.Io = refl
untold size payload (reading.Lex f) = refl
untold size payload (reading.Parse f) = refl
untold size payload (reading.Faults f) = refl
untold size payload reading.TooManyNames = refl
untold size payload reading.Memory = refl

told_as : (size : ℕ) (payload : List ℕ) (s u : Status) → s ≡ u → told_added (Some (asked.Add size)) s payload ≡ told_added (Some (asked.Add size)) u payload
told_as size payload s u same = ap (λ (x : Status). told_added (Some (asked.Add size)) x payload) same

-- a refusal, or that there was no memory for its message
refused : (limits : Limits) (size : ℕ) (payload : List ℕ) (fault : DocumentFault) (t : Told) → IsFaultTold limits (faults.Expression fault) t ⊎ (t ≡ out_of_memory)
    → told_added (Some (asked.Add size)) t.status payload ≡ []
refused limits size payload fault t (inl h) = told_as size payload t.status (status_of fault) h.1 ∙ untold size payload fault
refused limits size payload fault t (inr none) = told_as size payload t.status statuses.Memory (ap (λ (x : Told). x.status) none)

add_tells : (limits : Limits) (size : ℕ) (payload : List ℕ) (old new : Opened) (t : Told) (reply : Reply) → IsCall old (Add payload) reply new
    → IsAnswerTold limits reply t ⊎ ((added (Add payload) reply ≡ []) × (t ≡ out_of_memory)) → added (Add payload) reply ≡ told_added (Some (asked.Add size)) t.status payload
add_tells limits size payload old new t (Added (Ok made)) h (inl tells) = sym (told_as size payload t.status statuses.Done (ap (λ (x : Told). x.status) tells))
add_tells limits size payload old new t (Added (Ok made)) h (inr (none, is)) = absurd (cc)
add_tells limits size payload old new t (Added (Err fault)) h (inl tells) = sym (refused limits size payload fault t (inl tells))
add_tells limits size payload old new t (Added (Err fault)) h (inr (none, is)) = sym (refused limits size payload fault t (inr is))
add_tells limits size payload old new t (Resumed answer) h told = absurd h
add_tells limits size payload old new t (Answered answer) h told = absurd h
add_tells limits size payload old new t (Found answer) h told = absurd h
add_tells limits size payload old new t (Entailed answer) h told = absurd h
add_tells limits size payload old new t (Decided answer) h told = absurd h
add_tells limits size payload old new t (Written after answer) h told = absurd h
add_tells limits size payload old new t (Inferred answer) h told = absurd h

-- what a command does
pub does : (limits : Limits) (old new : Opened) (command : Command) (payload : List ℕ) (t : Told) → IsStep limits old command payload t new → Does old (told_added (Some command) t.status payload) new
does limits old new (asked.Add size) payload t (inl h) = Calls (Add payload) h.reply h.called (add_tells limits size payload old new t h.reply h.called h.answer)
does limits old new (asked.Add size) payload t (inr (at, none, valid, said)) = Stays said.0 (refused limits size payload (reading.NotUtf8 at) t said.1)
does limits old new asked.Run payload t h = Calls (calls.Resume limits.max_facts) (Resumed h.result) h.called refl
does limits old new (asked.RunSome more) payload t h = Calls (calls.Resume (run_end limits old more)) (Resumed h.result) h.called refl
does limits old new (asked.Ask question spelling) payload t h = Calls (calls.Ask question) (Answered h.result) h.called refl
does limits old new (asked.Query size) payload t (inl h) = Calls (calls.Query payload limits.max_facts) h.reply h.called refl
does limits old new (asked.Query size) payload t (inr (at, none, valid, said)) = Stays said.0 refl
does limits old new (asked.Entails size) payload t (inl h) = Calls (calls.Entail payload limits.max_facts) h.reply h.called refl
does limits old new (asked.Entails size) payload t (inr (at, none, valid, said)) = Stays said.0 refl
does limits old new (asked.Write paths) payload t (same, told) = Stays same refl
does limits old new (asked.Infer path) payload t (same, told) = Stays same refl
does limits old new (asked.Axiom number spelling) payload t (same, told) = Stays same refl
does limits old new asked.Status payload t (same, told) = Stays same refl
does limits old new asked.Version payload t (same, told) = Stays same refl

-- nothing was done
pub unasked : (old mid new : Opened) (x : Exchange) (xs : List Exchange) → mid ≡ old → told_added x.command x.reply.status x.payload ≡ [] → AreCallsOf mid xs new → AreCallsOf old (x ∷ xs) new
unasked old mid new x xs same none h = record {
  calls = h.calls;
  answers = h.answers;
  are = subst (λ (s : Opened). AreCalls s h.calls h.answers new) same h.are;
  added = h.added ∙ ap (λ (texts : List (List ℕ)). texts ++ texts_added xs) (sym none);
}

-- a command that more bytes follow than there is room for adds nothing
passed_adds : (room : ℕ) (command : Option Command) (payload : List ℕ) → told_added command (too_large room).status payload ≡ []
passed_adds room None payload = refl
passed_adds room (Some (asked.Add size)) payload = refl
passed_adds room (Some asked.Run) payload = refl
passed_adds room (Some (asked.RunSome more)) payload = refl
passed_adds room (Some (asked.Ask question spelling)) payload = refl
passed_adds room (Some (asked.Query size)) payload = refl
passed_adds room (Some (asked.Entails size)) payload = refl
passed_adds room (Some (asked.Write paths)) payload = refl
passed_adds room (Some (asked.Infer path)) payload = refl
passed_adds room (Some (asked.Axiom number spelling)) payload = refl
passed_adds room (Some asked.Status) payload = refl
passed_adds room (Some asked.Version) payload = refl

pub passed_adds_none : (room : ℕ) (command : Option Command) (payload : List ℕ) (t : Told) → t ≡ too_large room → told_added command t.status payload ≡ []
passed_adds_none room command payload t told = ap (λ (x : Told). told_added command x.status payload) told ∙ passed_adds room command payload

-- one exchange before others
pub before : (old mid new : Opened) (x : Exchange) (xs : List Exchange) → IsSession mid → Does old (told_added x.command x.reply.status x.payload) mid → AreCallsOf mid xs new → AreCallsOf old (x ∷ xs) new
before old mid new x xs session (Calls call reply is adds) h = record {
  calls = call ∷ h.calls;
  answers = reply ∷ h.answers;
  are = (mid, is, session, h.are);
  added = ap₂ (λ (a b : List (List ℕ)). a ++ b) adds h.added;
}
before old mid new x xs session (Stays same none) h = unasked old mid new x xs same none h

one_more : (old mid : SessionService) (new : Opened) (x : Exchange) (xs : List Exchange) (command : Option Command) → x.command ≡ command → IsAnswered session_service old command x.payload x.reply mid
    → AreCallsOf mid.session xs new → AreCallsOf old.session (x ∷ xs) new
one_more old mid new x xs (Some command) is (inl (room, answered)) h =
    let P : Option Command → Type 0 = λ c. Does old.session (told_added c x.reply.status x.payload) mid.session in
    before old.session mid.session new x xs answered.session (subst P (sym is) (does old.limits old.session mid.session command x.payload x.reply answered.step)) h
one_more old mid new x xs (Some command) is (inr (more, told, same)) h =
    unasked old.session mid.session new x xs (ap (λ (s : SessionService). s.session) same) (passed_adds_none _ x.command x.payload x.reply told) h
one_more old mid new x xs None is (told, same) h =
    let P : Option Command → Type 0 = λ c. told_added c x.reply.status x.payload ≡ [] in
    unasked old.session mid.session new x xs (ap (λ (s : SessionService). s.session) same) (subst P (sym is) refl) h

pub calls_of : (old new : SessionService) (xs : List Exchange) → AreExchanges session_service old xs new → AreCallsOf old.session xs new.session
calls_of old new [] same = record { calls = []; answers = []; are = ap (λ (s : SessionService). s.session) same; added = refl }
calls_of old new (x ∷ xs) (mid, is, later) = one_more old mid new.session x xs x.command refl is.answered (calls_of mid new xs later)

pub exchanges_of : (old new : SessionService) (before after : SourceState) (sink sink' : Device) (ending : Ending) → IsConversation session_service old new before after sink sink' ending
    → IsExchanged session_service old new before after sink sink' ending
exchanges_of old new before after sink sink' ending is = exchanged session_service old new before after sink sink' ending is

pub one_document : (version : Version) (bytes : List ℕ) (old new : SessionService) (xs : List Exchange) → IsSessionOver version bytes old.session → AreExchanges session_service old xs new
    → IsOneDocument version bytes (texts_added xs) new.session
one_document version bytes old new xs over exchanges =
    let calls = calls_of old new xs exchanges in
    subst (λ (texts : List (List ℕ)). IsOneDocument version bytes texts new.session) calls.added
    (edits_are_one_document version bytes old.session new.session calls.calls calls.answers over calls.are)
