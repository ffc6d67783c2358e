-- What a conversation leaves in a session: conversations are calls of it, and so what they add is one document with what was opened.
use Rattle.std.specs.Prelude.{◌≡◌, ◌∷◌, ℕ, List, [], Option, Some}
use Rattle.std.specs.List.{flat_map}
use Rattle.program.specs.declared.status.Status.{Status}
use Rattle.program.specs.declared.status.Status.TheVariants as statuses
use Rattle.program.specs.declared.version.Version.{Version}
use Rattle.telling.specs.Devices.{Device}
use Rattle.session.specs.Edits.{Call, Reply, AreCalls, IsOneDocument, IsSessionOver, accepted}
use Rattle.session.specs.Sessions.{Opened}
use Rattle.source_lines.specs.Sources.{SourceState}
use Rattle.speech.specs.Answers.{session_service}
use Rattle.speech.specs.Conversations.{AreExchanges, Exchange, IsConversation}
use Rattle.speech.specs.Wholes.{IsExchanged}
use Rattle.speech.specs.declared.command.Command.{Command}
use Rattle.speech.specs.declared.command.Command.TheVariants.{Add}
use Rattle.speech.specs.declared.conversation.Ending.{Ending}
use Rattle.speech.specs.declared.session_service.SessionService.{SessionService}

-- the text that is told to be added: that behind a command `add` which is done
abbrev pub told_added : Option Command → Status → (payload : List ℕ) → List (List ℕ)
told_added (Some (Add size)) statuses.Done payload = payload ∷ []
told_added command status payload = []

-- those of all exchanges, in their order
abbrev pub texts_added : List Exchange → List (List ℕ)
texts_added xs = flat_map (λ x. told_added x.command x.reply.status x.payload) xs

-- the exchanges are calls of the session, one after the other, and the texts that these added are those that are told to be added
pub record AreCallsOf (old : Opened) (xs : List Exchange) (new : Opened) : Type 0 where
  pub calls : List Call
  pub answers : List Reply
  pub are : AreCalls old calls answers new
  pub added : accepted calls answers ≡ texts_added xs

-- ---- laws

-- a conversation is exchanges, one behind the other: what was read spells them, and what was written is what they tell
abbrev pub ConversationsAreExchanges : Type 0
ConversationsAreExchanges =
    (old new : SessionService) (before after : SourceState) (sink sink' : Device) (ending : Ending) → IsConversation session_service old new before after sink sink' ending →
    IsExchanged session_service old new before after sink sink' ending

-- whatever is asked: each session is that of calls
abbrev pub ConversationsAreCalls : Type 0
ConversationsAreCalls = (old new : SessionService) (xs : List Exchange) → AreExchanges session_service old xs new → AreCallsOf old.session xs new.session

-- so what is there is what the document states with the texts that are told to be added
abbrev pub ConversationsAreOneDocument : Type 0
ConversationsAreOneDocument =
    (version : Version) (bytes : List ℕ) (old new : SessionService) (xs : List Exchange) → IsSessionOver version bytes old.session → AreExchanges session_service old xs new →
    IsOneDocument version bytes (texts_added xs) new.session
