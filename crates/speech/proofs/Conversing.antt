-- A conversation, turn by turn.
use Rattle.std.proofs.Common.{◌≡◌, ◌+◌, ◌<◌, ◌++◌, ◌∷◌, [], ℕ, List, Some, length, inl, inr, refl, sym, ap, subst, length-append, arith}
use Rattle.source_lines.specs.Sources.{SourceState}
use Rattle.speech.specs.Conversations.{AreTurns, Exchange, IsConversation, IsLastTurn, IsTurn, IsTurnedDown, Point, ended, point, size_behind, text_asked, text_behind, text_told, told_of}
use Rattle.telling.specs.Devices.{Device, FailsIn, Takes}
use Rattle.speech.specs.Replies.{reply_text}
use Rattle.speech.specs.Turns.{IsNext, IsOneTurn, IsRefusalTold}
use Rattle.speech.specs.declared.conversation.Ending.{Ending}
use Rattle.speech.specs.declared.conversation.Ending.TheVariants as endings
use Rattle.speech.specs.declared.input_fault.InputFault.{InputFault}
use Rattle.speech.specs.declared.service.Service.{Ghosts}

-- what was asked by then is answered
pub record HasAnswered {V : Type 0} (G : Ghosts V) (old new : Point V) : Type 0 where
  pub xs : List Exchange
  pub turns : AreTurns G old xs new

one_more : {V : Type 0} (G : Ghosts V) (a b c : Point V) (xs : List Exchange) (x : Exchange) → AreTurns G a xs b → IsTurn G b x c → Takes b.sink c.sink (text_told x) → AreTurns G a (xs ++ (x ∷ [])) c
one_more {V} G a b c [] x h is takes =
    let P : Point V → Type 0 = λ p. IsTurn G p x c in
    let Q : Point V → Type 0 = λ p. Takes p.sink c.sink (text_told x) in
    (c, subst P h is, subst Q h takes, refl)
one_more {V} G a b c (y ∷ ys) x h is takes = (h.0, h.1, h.2, one_more G h.0 b c ys x h.3 is takes)

-- nothing was asked
pub at_first : {V : Type 0} (G : Ghosts V) (v : V) (ahead : List ℕ) (s : SourceState) (d : Device) → ahead ≡ [] → HasAnswered G (point v [] s d) (point v ahead s d)
at_first {V} G v ahead s d none = record { xs = []; turns = ap (λ (l : List ℕ). point v l s d) none }

-- one turn more
pub answered_more : {V : Type 0} (G : Ghosts V) (a b c : Point V) → HasAnswered G a b → IsOneTurn G b c (Takes b.sink c.sink) → HasAnswered G a c
answered_more {V} G a b c h k = record { xs = h.xs ++ (k.exchange ∷ []); turns = one_more G a b c h.xs k.exchange h.turns k.turn k.written }

asked_some : (x : Exchange) → 0 < length (text_asked x)
asked_some x = omega (arith, length-append (ended x.line) (text_behind (size_behind x.command) x.payload), length-append x.line (10 ∷ []))

-- each takes some bytes
pub some_taken : {V : Type 0} (G : Ghosts V) (b c : Point V) (W : List ℕ → Type 0) → IsOneTurn G b c W → c.source.most + length c.ahead < b.source.most + length b.ahead
some_taken {V} G b c W k =
    let x = k.exchange in
    let read = k.turn.read in
    let long = ap length read.in_order in
    omega (arith, read.given.fell, long, length-append b.ahead read.read, length-append (text_asked x) c.ahead, asked_some x)

-- ---- ends

-- the end of a conversation that is at a point
pub ended_by : {V : Type 0} (G : Ghosts V) (v : V) (s : SourceState) (d : Device) (b c : Point V) (ending : Ending) → HasAnswered G (point v [] s d) b → IsLastTurn G b ending c
    → IsConversation G v c.service s c.source d c.sink ending
ended_by {V} G v s d b c ending h last = (h.xs, b, c.ahead, h.turns, last)

pub unwritten_by : {V : Type 0} (G : Ghosts V) (b c : Point V) → IsOneTurn G b c (FailsIn b.sink c.sink) → IsLastTurn G b endings.Unwritten c
unwritten_by {V} G b c k = inl (k.exchange, k.turn, k.written)

-- a refusal, with what the sink has when it is told
told_down : {V : Type 0} (b c : Point V) (fault : InputFault) (e : Device) → IsTurnedDown b fault c → IsTurnedDown b fault (point c.service c.ahead c.source e)
told_down {V} b c fault e h = record { refused = h.refused; stays = h.stays }

pub refused_by : {V : Type 0} (G : Ghosts V) (b c : Point V) (fault : InputFault) (ending : Ending) (e : Device) → IsNext G b c (Some (endings.Refused fault)) → IsRefusalTold fault c.sink e ending
    → IsLastTurn G b ending (point c.service c.ahead c.source e)
refused_by {V} G b c fault endings.End e h told = absurd told
refused_by {V} G b c fault (endings.Refused other) e (down, same) told =
    let P : Device → Type 0 = λ d. Takes d e (reply_text (told_of fault)) in
    let R : InputFault → Type 0 = λ x. IsLastTurn G b (endings.Refused x) (point c.service c.ahead c.source e) in
    subst R (sym told.0) (told_down b c fault e down, subst P same told.1)
refused_by {V} G b c fault endings.Unwritten e (down, same) told =
    let P : Device → Type 0 = λ d. FailsIn d e (reply_text (told_of fault)) in
    inr (fault, told_down b c fault e down, subst P same told)
