-- One turn of a conversation.
use Rattle.std.specs.Prelude.{◌≡◌, ◌<◌, ◌≤◌, ℕ, List, [], Option, Some, None, Result, Ok, Err, length}
use Rattle.source_lines.specs.Sources.{SourceState}
use Rattle.speech.specs.Commands.{IsNoCommand, Spells, payload_size}
use Rattle.speech.specs.Conversations.{ComesLine, ComesPayload, Exchange, Follows, HasNoSize, HasPayload, IsLast, IsLastTurn, IsTurn, IsTurnedDown, LacksLine, LacksPayload, Point, status_of, text_told, told_of}
use Rattle.telling.specs.Devices.{Device, FailsIn, Takes}
use Rattle.program.specs.declared.status.Status.{Status}
use Rattle.program.specs.declared.status.Status.TheVariants as statuses
use Rattle.speech.specs.Replies.{Told, reply_text, too_large, unknown_command}
use Rattle.speech.specs.declared.command.Command.{Command}
use Rattle.speech.specs.declared.conversation.Ending.{Ending}
use Rattle.speech.specs.declared.conversation.Ending.TheVariants as endings
use Rattle.speech.specs.declared.hearing.Heard.{Heard}
use Rattle.speech.specs.declared.hearing.Heard.TheVariants as hearings
use Rattle.speech.specs.declared.line.CommandFault.TheVariants as lines
use Rattle.speech.specs.declared.input_fault.InputFault.{InputFault}
use Rattle.speech.specs.declared.input_fault.InputFault.TheVariants as faults
use Rattle.source_lines.specs.declared.fault.StreamFault.{StreamFault}
use Rattle.source_lines.specs.declared.fault.StreamFault.TheVariants as stream
use Rattle.speech.specs.declared.service.Service.{Ghosts}
use Rattle.std.specs.Global.{Vec}

-- why a line did not come, as a fault of what is read
abbrev pub told_as : StreamFault → InputFault
told_as stream.Io = faults.Unread
told_as stream.Memory = faults.Memory

-- the next line, or that there is none, or why
abbrev pub IsNextLine : Result (Option (Vec ℕ)) InputFault → (old new : List ℕ) → (before after : SourceState) → Type 0
IsNextLine (Ok (Some line)) old new before after = ComesLine old new before after line.items
IsNextLine (Ok None) old new before after = IsLast old before after [] × (new ≡ [])
IsNextLine (Err fault) old new before after = LacksLine fault old before after

-- so many bytes came next, with a line feed, and are gone
abbrev pub IsPassed : (size : ℕ) → (old new : List ℕ) → (before after : SourceState) → Type 0
IsPassed size old new before after = (payload : List ℕ) × ComesPayload size old new before after payload

-- what follows a line: bytes that are kept, for which there is room; or more, which are gone
abbrev pub KeepsFollowing : (room : ℕ) → Option ℕ → (old new : List ℕ) → (before after : SourceState) → Option (Vec ℕ) → Type 0
KeepsFollowing room size old new before after (Some payload) = Follows size old new before after payload.items × (length payload.items ≤ room)
KeepsFollowing room size old new before after None = (payload : List ℕ) × Follows size old new before after payload × (room < length payload)

-- what a line is, with the bytes that follow it: a command, which has room for them or not, or none
abbrev pub Hears : (room : ℕ) → (line : List ℕ) → (old new : List ℕ) → (before after : SourceState) → Heard → Type 0
Hears room line old new before after (hearings.Command command payload) = Spells line command × KeepsFollowing room (payload_size command) old new before after (Some payload)
Hears room line old new before after hearings.TooLarge = (command : Command) × Spells line command × KeepsFollowing room (payload_size command) old new before after None
Hears room line old new before after hearings.Unknown = IsNoCommand line lines.Unknown × (new ≡ old) × (after ≡ before)

-- there is room for the bytes that are kept
abbrev pub Fits : (room : ℕ) → Heard → Type 0
Fits room (hearings.Command command payload) = length payload.items ≤ room
Fits room heard = Unit {0}

-- why so many bytes do not follow a line
abbrev pub LacksSized : Option ℕ → InputFault → (old : List ℕ) → (before after : SourceState) → Type 0
LacksSized None fault old before after = ⊥
LacksSized (Some size) fault old before after = LacksPayload fault size old before after

-- why there is no command with its bytes, of a line that has come
abbrev pub LacksBehind : (line : List ℕ) → InputFault → (old new : List ℕ) → (before after : SourceState) → Type 0
LacksBehind line faults.Size old new before after = HasNoSize line × (new ≡ old) × (after ≡ before)
LacksBehind line fault old new before after = (size : ℕ) × HasPayload line size × LacksPayload fault size old before after

-- it is told of what was heard, and as far as it was written
abbrev pub IsReplied : {V : Type 0} → Ghosts V → (old : V) → Heard → (new : V) → (Written : List ℕ → Type 0) → Type 0
IsReplied G old (hearings.Command command payload) new Written = (reply : Told) × G.steps old command payload.items reply new × Written (reply_text reply)
IsReplied G old hearings.TooLarge new Written = (new ≡ old) × Written (reply_text (too_large (G.room old)))
IsReplied G old hearings.Unknown new Written = (new ≡ old) × Written (reply_text unknown_command)

-- it is told why no command came, or the sink failed in that
abbrev pub IsRefusalTold : InputFault → (old new : Device) → Ending → Type 0
IsRefusalTold fault old new endings.End = ⊥
IsRefusalTold fault old new (endings.Refused other) = (other ≡ fault) × Takes old new (reply_text (told_of fault))
IsRefusalTold fault old new endings.Unwritten = FailsIn old new (reply_text (told_of fault))

-- the status of an end
abbrev pub status_of_end : Ending → Status
status_of_end endings.End = statuses.Done
status_of_end (endings.Refused fault) = status_of fault
status_of_end endings.Unwritten = statuses.File

-- one turn is done, and its reply goes out as far as it was written
pub record IsOneTurn {V : Type 0} (G : Ghosts V) (old new : Point V) (Written : List ℕ → Type 0) : Type 0 where
  pub exchange : Exchange
  pub turn : IsTurn G old exchange new
  pub written : Written (text_told exchange)

-- one turn is done whole, and the conversation goes on; or it ends, where it is still to be told what is refused
abbrev pub IsNext : {V : Type 0} → Ghosts V → (old new : Point V) → Option Ending → Type 0
IsNext G old new None = IsOneTurn G old new (Takes old.sink new.sink)
IsNext G old new (Some endings.End) = IsLastTurn G old endings.End new
IsNext G old new (Some (endings.Refused fault)) = IsTurnedDown old fault new × (new.sink ≡ old.sink)
IsNext G old new (Some endings.Unwritten) = IsOneTurn G old new (FailsIn old.sink new.sink)
