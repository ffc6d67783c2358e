-- Lines and what follows them.
use Rattle.std.proofs.Common.{◌≡◌, [], ℕ, List, Option, Some, None, inl, inr, refl, sym, subst}
use Rattle.source_lines.specs.Sources.{SourceState}
use Rattle.speech.specs.Commands.{Spells, payload_size}
use Rattle.speech.specs.Conversations.{Comes, ComesLine, Follows, HasSize, IsRefused, Point, ended, text_behind}
use Rattle.speech.specs.Replies.{too_large, unknown_command}
use Rattle.speech.specs.Turns.{Hears, IsOneTurn, IsReplied, LacksBehind, LacksSized}
use Rattle.speech.specs.declared.command.Command.{Command}
use Rattle.speech.specs.declared.hearing.Heard.{Heard}
use Rattle.speech.specs.declared.hearing.Heard.TheVariants as hearings
use Rattle.speech.specs.declared.input_fault.InputFault.{InputFault}
use Rattle.speech.specs.declared.input_fault.InputFault.TheVariants.{Size, LineFeed, Cut, Unread, Memory}
use Rattle.speech.specs.declared.service.Service.{Ghosts}
use Rattle.speech.proofs.Coming.{comes_more, comes_none, reads_on}

pub lacks_behind : (line : List ℕ) (c : Command) (size : Option ℕ) (fault : InputFault) (old new : List ℕ) (s t : SourceState) → Spells line c → payload_size c ≡ size
    → LacksSized size fault old s t → LacksBehind line fault old new s t
lacks_behind line c None fault old new s t h is lacks = absurd lacks
lacks_behind line c (Some n) Size old new s t h is lacks = absurd lacks
lacks_behind line c (Some n) LineFeed old new s t h is lacks = (n, (c, h, is), lacks)
lacks_behind line c (Some n) Cut old new s t h is lacks = (n, (c, h, is), lacks)
lacks_behind line c (Some n) Unread old new s t h is lacks = (n, (c, h, is), lacks)
lacks_behind line c (Some n) Memory old new s t h is lacks = (n, (c, h, is), lacks)

pub refused_behind : (line : List ℕ) (fault : InputFault) (old mid new : List ℕ) (s t u : SourceState) → ComesLine old mid s t line → LacksBehind line fault mid new t u
    → IsRefused fault old s u
refused_behind line Size old mid new s t u h lacks =
    let P : SourceState → Type 0 = λ r. ComesLine old mid s r line in
    (line, mid, subst P (sym lacks.2) h, lacks.0)
refused_behind line LineFeed old mid new s t u h lacks = inr (record { line = line; mid = mid; then = t; comes = h; size = lacks.0; asked = lacks.1; lacks = lacks.2 })
refused_behind line Cut old mid new s t u h lacks = inr (record { line = line; mid = mid; then = t; comes = h; size = lacks.0; asked = lacks.1; lacks = lacks.2 })
refused_behind line Unread old mid new s t u h lacks = inr (record { line = line; mid = mid; then = t; comes = h; size = lacks.0; asked = lacks.1; lacks = lacks.2 })
refused_behind line Memory old mid new s t u h lacks = reads_on old mid s t u (ended line) h.comes lacks.2

follows : (size : Option ℕ) (old new : List ℕ) (s t : SourceState) (payload : List ℕ) → Follows size old new s t payload → Comes old new s t (text_behind size payload) × HasSize size payload
follows None old new s t payload h =
    let P : List ℕ → Type 0 = λ l. Comes old l s t [] in
    let Q : SourceState → Type 0 = λ r. Comes old old s r [] in
    (subst P (sym h.1) (subst Q (sym h.2) (comes_none old s)), h.0)
follows (Some n) old new s t payload h = (h.comes, h.long)

-- a line that is heard and answered is a turn
pub turn_of : {V : Type 0} (G : Ghosts V) (a c : Point V) (line : List ℕ) (h : Heard) (mid : List ℕ) (t : SourceState) (W : List ℕ → Type 0)
    → ComesLine a.ahead mid a.source t line → Hears (G.room a.service) line mid c.ahead t c.source h → IsReplied G a.service h c.service W → IsOneTurn G a c W
turn_of {V} G a c line (hearings.Command command payload) mid t W comes (spells, kept) (reply, step, written) =
    let behind = follows (payload_size command) mid c.ahead t c.source payload.items kept.0 in
    record {
      exchange = record { line = line; command = Some command; payload = payload.items; reply = reply };
      turn = record {
        read = comes_more a.ahead mid c.ahead a.source t c.source (ended line) (text_behind (payload_size command) payload.items) comes.comes behind.0;
        answered = record { single = comes.single; heard = spells; sized = behind.1; answered = inl (kept.1, step) };
      };
      written = written;
    }
turn_of {V} G a c line hearings.TooLarge mid t W comes (command, spells, gone) (same, written) =
    let payload = gone.0 in
    let behind = follows (payload_size command) mid c.ahead t c.source payload gone.1 in
    record {
      exchange = record { line = line; command = Some command; payload = payload; reply = too_large (G.room a.service) };
      turn = record {
        read = comes_more a.ahead mid c.ahead a.source t c.source (ended line) (text_behind (payload_size command) payload) comes.comes behind.0;
        answered = record { single = comes.single; heard = spells; sized = behind.1; answered = inr (gone.2, refl, same) };
      };
      written = written;
    }
turn_of {V} G a c line hearings.Unknown mid t W comes (none, ahead, source) (same, written) =
    let behind = follows None mid c.ahead t c.source [] (refl, ahead, source) in
    record {
      exchange = record { line = line; command = None; payload = []; reply = unknown_command };
      turn = record {
        read = comes_more a.ahead mid c.ahead a.source t c.source (ended line) [] comes.comes behind.0;
        answered = record { single = comes.single; heard = none; sized = behind.1; answered = (refl, same) };
      };
      written = written;
    }
