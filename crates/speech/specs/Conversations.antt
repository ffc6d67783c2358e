-- Commands and what is told of them, one behind the other: what was read, what was done, and what was written.
use Rattle.std.specs.Prelude.{◌≡◌, ◌<◌, ◌≤◌, ◌⊎◌, ◌++◌, ◌∷◌, ℕ, List, [], Option, Some, None, codes, length, slice_get}
use Rattle.std.specs.Io.KnownBytes.{IsAtEnd}
use Rattle.std.specs.List.{Contains}
use Rattle.device.specs.Device.{HasFailed}
use Rattle.program.specs.declared.status.Status.{Status}
use Rattle.program.specs.declared.status.Status.TheVariants as statuses
use Rattle.source_lines.specs.Sources.{SourceState, Gives, IsReadOn}
use Rattle.speech.specs.Commands.{IsNoCommand, Spells, payload_size}
use Rattle.telling.specs.Devices.{Device, FailsIn, Takes}
use Rattle.speech.specs.Replies.{Told, reply_text, told, too_large, unknown_command}
use Rattle.speech.specs.declared.command.Command.{Command}
use Rattle.speech.specs.declared.conversation.Ending.{Ending}
use Rattle.speech.specs.declared.conversation.Ending.TheVariants as endings
use Rattle.speech.specs.declared.input_fault.InputFault.{InputFault}
use Rattle.speech.specs.declared.input_fault.InputFault.TheVariants.{Size, LineFeed, Cut, Unread, Memory}
use Rattle.speech.specs.declared.line.CommandFault.TheVariants as lines
use Rattle.speech.specs.declared.service.Service.{Ghosts}

-- ---- what is read

-- the bytes come next: they stood in what was read ahead, or the source gave them; the rest of what it gave is read ahead
pub record Comes (old new : List ℕ) (before after : SourceState) (bytes : List ℕ) : Type 0 where
  pub read : List ℕ
  pub given : Gives before after read
  pub in_order : old ++ read ≡ bytes ++ new
  pub unfailed : after.failures ≡ before.failures

-- the bytes with a line feed behind them
abbrev pub ended : List ℕ → List ℕ
ended bytes = bytes ++ 10 ∷ []

-- the line comes next, with its line feed
pub record ComesLine (old new : List ℕ) (before after : SourceState) (line : List ℕ) : Type 0 where
  pub comes : Comes old new before after (ended line)
  pub single : Contains line 10 → ⊥

-- so many bytes come next, with a line feed
pub record ComesPayload (size : ℕ) (old new : List ℕ) (before after : SourceState) (payload : List ℕ) : Type 0 where
  pub comes : Comes old new before after (ended payload)
  pub long : length payload ≡ size

-- what follows a command: so many bytes, or nothing
abbrev pub Follows : Option ℕ → (old new : List ℕ) → (before after : SourceState) → (payload : List ℕ) → Type 0
Follows (Some size) old new before after payload = ComesPayload size old new before after payload
Follows None old new before after payload = (payload ≡ []) × (new ≡ old) × (after ≡ before)

-- ---- commands that are answered

-- what a line is: a command; or none, and no bytes follow it
abbrev pub IsHeard : (line : List ℕ) → Option Command → Type 0
IsHeard line (Some command) = Spells line command
IsHeard line None = IsNoCommand line lines.Unknown

-- how many bytes follow what is asked for
abbrev pub size_behind : Option Command → Option ℕ
size_behind (Some command) = payload_size command
size_behind None = None

-- a command is done, for whose bytes there is room
abbrev pub IsDone : {V : Type 0} → Ghosts V → (old : V) → Command → (payload : List ℕ) → Told → (new : V) → Type 0
IsDone V old command payload reply new = (length payload ≤ V.room old) × V.steps old command payload reply new

-- there are more bytes than there is room for, which is told, and nothing is done
abbrev pub IsPassedOver : {V : Type 0} → Ghosts V → (old : V) → (payload : List ℕ) → Told → (new : V) → Type 0
IsPassedOver V old payload reply new = (V.room old < length payload) × (reply ≡ too_large (V.room old)) × (new ≡ old)

-- what is done, and what is told of it
abbrev pub IsAnswered : {V : Type 0} → Ghosts V → (old : V) → Option Command → (payload : List ℕ) → Told → (new : V) → Type 0
IsAnswered V old (Some command) payload reply new = IsDone V old command payload reply new ⊎ IsPassedOver V old payload reply new
IsAnswered V old None payload reply new = (reply ≡ unknown_command) × (new ≡ old)

-- a line, the command that it is, the bytes behind it, and what is told
pub record Exchange : Type 0 where
  pub line : List ℕ
  pub command : Option Command
  pub payload : List ℕ
  pub reply : Told

-- the bytes that follow a line, with their line feed, if some do
abbrev pub text_behind : Option ℕ → (payload : List ℕ) → List ℕ
text_behind None payload = []
text_behind (Some size) payload = ended payload

-- they are so many
abbrev pub HasSize : Option ℕ → (payload : List ℕ) → Type 0
HasSize None payload = payload ≡ []
HasSize (Some size) payload = length payload ≡ size

-- how an exchange is spelled by whom asks, and by whom answers
abbrev pub text_asked : Exchange → List ℕ
text_asked x = ended x.line ++ text_behind (size_behind x.command) x.payload

abbrev pub text_told : Exchange → List ℕ
text_told x = reply_text x.reply

-- the line is answered as what it is
pub record IsExchange {V : Type 0} (G : Ghosts V) (old : V) (x : Exchange) (new : V) : Type 0 where
  pub single : Contains x.line 10 → ⊥
  pub heard : IsHeard x.line x.command
  pub sized : HasSize (size_behind x.command) x.payload
  pub answered : IsAnswered G old x.command x.payload x.reply new

-- one behind the other
abbrev pub AreExchanges : {V : Type 0} → Ghosts V → (old : V) → List Exchange → (new : V) → Type 0
AreExchanges G old [] new = new ≡ old
AreExchanges {V} G old (x ∷ xs) new = (mid : V) × IsExchange G old x mid × AreExchanges G mid xs new

-- ---- what is no command with its bytes

-- a line begins as that of a command that bytes follow, and does not say how many
abbrev pub HasNoSize : (line : List ℕ) → Type 0
HasNoSize line = IsNoCommand line lines.Size

-- a line is that of a command that so many bytes follow
abbrev pub HasPayload : (line : List ℕ) → (size : ℕ) → Type 0
HasPayload line size = (command : Command) × Spells line command × (payload_size command ≡ Some size)

-- so many bytes with a line feed behind them stand at the front
abbrev pub HasEnded : (size : ℕ) → (bytes : List ℕ) → Type 0
HasEnded size bytes = slice_get bytes size ≡ Some 10

-- the source is at its end behind these bytes, all that is left
pub record IsLast (old : List ℕ) (before after : SourceState) (bytes : List ℕ) : Type 0 where
  pub comes : Comes old [] before after bytes
  pub end : IsAtEnd after.left

-- the source failed behind these bytes
pub record IsCutOff (old : List ℕ) (before after : SourceState) (bytes : List ℕ) : Type 0 where
  pub read : List ℕ
  pub given : Gives before after read
  pub in_order : old ++ read ≡ bytes
  pub failed : HasFailed before.failures after.failures

-- why the next line is not there
abbrev pub LacksLine : InputFault → (old : List ℕ) → (before after : SourceState) → Type 0
LacksLine Cut old before after = (bytes : List ℕ) × IsLast old before after bytes × (Contains bytes 10 → ⊥) × (bytes ≡ [] → ⊥)
LacksLine Unread old before after = (bytes : List ℕ) × IsCutOff old before after bytes × (Contains bytes 10 → ⊥)
LacksLine Memory old before after = IsReadOn before after
LacksLine fault old before after = ⊥

-- why so many bytes with a line feed are not there
abbrev pub LacksPayload : InputFault → (size : ℕ) → (old : List ℕ) → (before after : SourceState) → Type 0
LacksPayload LineFeed size old before after = (bytes : List ℕ) × (new : List ℕ) × Comes old new before after bytes × (size < length bytes) × (HasEnded size bytes → ⊥)
LacksPayload Cut size old before after = (bytes : List ℕ) × IsLast old before after bytes × (length bytes ≤ size)
LacksPayload Unread size old before after = (bytes : List ℕ) × IsCutOff old before after bytes × (HasEnded size bytes → ⊥)
LacksPayload Memory size old before after = IsReadOn before after
LacksPayload Size size old before after = ⊥

-- a line is there, and not what has to follow it
pub record LacksFollowing (fault : InputFault) (old : List ℕ) (before after : SourceState) : Type 0 where
  pub line : List ℕ
  pub mid : List ℕ
  pub then : SourceState
  pub comes : ComesLine old mid before then line
  pub size : ℕ
  pub asked : HasPayload line size
  pub lacks : LacksPayload fault size mid then after

-- why no command comes next
abbrev pub IsRefused : InputFault → (old : List ℕ) → (before after : SourceState) → Type 0
IsRefused Size old before after = (line : List ℕ) × (new : List ℕ) × ComesLine old new before after line × HasNoSize line
IsRefused Memory old before after = IsReadOn before after
IsRefused fault old before after = LacksLine fault old before after ⊎ LacksFollowing fault old before after

-- the status of the end of a conversation for that reason, and what is told of it
abbrev pub status_of : InputFault → Status
status_of Size = statuses.Usage
status_of LineFeed = statuses.Usage
status_of Cut = statuses.Usage
status_of Unread = statuses.File
status_of Memory = statuses.Memory

abbrev pub fault_line : InputFault → List ℕ
fault_line Size = codes "no size"
fault_line LineFeed = codes "no line feed behind the bytes"
fault_line Cut = codes "the input ends in a command"
fault_line Unread = codes "cannot read the input"
fault_line Memory = codes "out of memory"

abbrev pub fault_text : InputFault → List ℕ
fault_text fault = ended (fault_line fault)

abbrev pub told_of : InputFault → Told
told_of fault = told (status_of fault) (fault_text fault)

-- ---- whole conversations

-- how far a conversation is: what answers, the bytes that were read ahead of the next line, the source, and the sink
pub record Point (V : Type 0) : Type 0 where
  pub service : V
  pub ahead : List ℕ
  pub source : SourceState
  pub sink : Device

abbrev pub point : {V : Type 0} → V → (ahead : List ℕ) → SourceState → (sink : Device) → Point V
point service ahead source sink = record { service = service; ahead = ahead; source = source; sink = sink }

-- the next line is read, with the bytes behind it, and is answered as what it is
pub record IsTurn {V : Type 0} (G : Ghosts V) (old : Point V) (x : Exchange) (new : Point V) : Type 0 where
  pub read : Comes old.ahead new.ahead old.source new.source (text_asked x)
  pub answered : IsExchange G old.service x new.service

-- turn by turn: the sink takes the whole reply to each line before the next line is read
abbrev pub AreTurns : {V : Type 0} → Ghosts V → (old : Point V) → List Exchange → (new : Point V) → Type 0
AreTurns G old [] new = new ≡ old
AreTurns {V} G old (x ∷ xs) new = (mid : Point V) × IsTurn G old x mid × Takes old.sink mid.sink (text_told x) × AreTurns G mid xs new

-- what comes next is refused, and nothing is done
pub record IsTurnedDown {V : Type 0} (old : Point V) (fault : InputFault) (new : Point V) : Type 0 where
  pub refused : IsRefused fault old.ahead old.source new.source
  pub stays : new.service ≡ old.service

-- what comes last: the end of the source; or what is refused, which is told; or the sink fails in the reply to one more line, or in what
-- is told of what is refused
abbrev pub IsLastTurn : {V : Type 0} → Ghosts V → (old : Point V) → Ending → (new : Point V) → Type 0
IsLastTurn G old endings.End new = IsLast old.ahead old.source new.source [] × (new.service ≡ old.service) × (new.sink ≡ old.sink)
IsLastTurn G old (endings.Refused fault) new = IsTurnedDown old fault new × Takes old.sink new.sink (reply_text (told_of fault))
IsLastTurn G old endings.Unwritten new =
    ((x : Exchange) × IsTurn G old x new × FailsIn old.sink new.sink (text_told x))
    ⊎ ((fault : InputFault) × IsTurnedDown old fault new × FailsIn old.sink new.sink (reply_text (told_of fault)))

-- turn by turn, and then what comes last; at first nothing is read
abbrev pub IsConversation : {V : Type 0} → Ghosts V → (old new : V) → (before after : SourceState) → (sink sink' : Device) → Ending → Type 0
IsConversation {V} G old new before after sink sink' ending =
    (xs : List Exchange) × (mid : Point V) × (ahead : List ℕ) × AreTurns G (point old [] before sink) xs mid × IsLastTurn G mid ending (point new ahead after sink')
