-- A whole run of `session` over files of which it is known what they hold: what it was asked, what it answered, and what was there then.
use Rattle.std.specs.Prelude.{◌≡◌, ◌⊎◌, ◌++◌, ℕ, List, [], Bool, Some}
use Rattle.std.specs.Borrow.{Bor}
use Rattle.std.specs.List.{flat_map}
use Rattle.receiving.specs.Files.{Store}
use Rattle.telling.specs.Printing.{Output}
use Rattle.cli.specs.Speaking.{IsSpoken, input_path}
use Rattle.program.specs.Status.{code_of}
use Rattle.program.specs.declared.limits.Limits.{Limits}
use Rattle.program.specs.declared.version.Version.{Version}
use Rattle.telling.specs.Devices.{Device, FailsIn, Takes}
use Rattle.session.specs.Edits.{IsOneDocument, IsSessionOver}
use Rattle.session.specs.Sessions.{Opened}
use Rattle.speech.specs.Conversations.{Exchange, text_asked, told_of}
use Rattle.speech.specs.Editing.{AreCallsOf, texts_added}
use Rattle.speech.specs.Replies.{reply_text}
use Rattle.speech.specs.Turns.{status_of_end}
use Rattle.speech.specs.Wholes.{replies}
use Rattle.speech.specs.declared.conversation.Ending.{Ending}
use Rattle.speech.specs.declared.conversation.Ending.TheVariants as endings
use Rattle.speech.specs.declared.input_fault.InputFault.{InputFault}
use Rattle.system_files.specs.Contents.{Content}

-- what was written, where this was left of the input: all replies, with nothing left; or these and why no command came next; or a beginning
abbrev pub AreRepliesTold : List Exchange → (rest : List ℕ) → (old new : Device) → Ending → Type 0
AreRepliesTold xs rest old new endings.End = (rest ≡ []) × Takes old new (replies xs)
AreRepliesTold xs rest old new (endings.Refused fault) = Takes old new (replies xs ++ reply_text (told_of fault))
AreRepliesTold xs rest old new endings.Unwritten = FailsIn old new (replies xs) ⊎ ((fault : InputFault) × FailsIn old new (replies xs ++ reply_text (told_of fault)))

-- the input spells commands, each was answered by calls of a session over the document of these bytes, and what is there at the end is what
-- the document states with the texts that were answered by `ok`
pub record IsAnsweredSession (version : Version) (bytes input : List ℕ) (old new : Output) (status : ℕ) : Type 0 where
  pub first : Opened
  pub last : Opened
  pub opened : IsSessionOver version bytes first
  pub unserved : first.saturation.state.served ≡ []
  pub xs : List Exchange
  pub rest : List ℕ
  pub asked : input ≡ flat_map text_asked xs ++ rest
  pub calls : AreCallsOf first xs last
  pub document : IsOneDocument version bytes (texts_added xs) last
  pub ending : Ending
  pub told : AreRepliesTold xs rest old.out new.out ending
  pub status_is : status ≡ code_of (status_of_end ending)

-- whatever a run of `session` is asked
abbrev pub SpokenSessionsAreAnswered : Type 0
SpokenSessionsAreAnswered =
    (told : Bool) (document : Bor (List ℕ)) (limits : Limits) (s : Store) (content content' : Content) (old new : Output) (status : ℕ) (bytes input : List ℕ) →
    content document.now ≡ Some bytes → content input_path ≡ Some input → IsSpoken told document limits s content content' old new status →
    IsAnsweredSession limits.version bytes input old new status
