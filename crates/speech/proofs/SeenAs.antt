-- A conversation with a service that is seen as another.
use Rattle.std.proofs.Common.{◌∷◌, [], List, inl, inr, sym, ap, subst}
use Rattle.source_lines.specs.Sources.{SourceState}
use Rattle.telling.specs.Devices.{Device}
use Rattle.speech.specs.Conversations.{AreTurns, Exchange, IsConversation, IsExchange, IsLastTurn, IsTurnedDown, Point, point}
use Rattle.speech.specs.declared.conversation.Ending.{Ending}
use Rattle.speech.specs.declared.conversation.Ending.TheVariants as endings
use Rattle.speech.specs.declared.input_fault.InputFault.{InputFault}
use Rattle.speech.specs.declared.service.Service.{Ghosts}

-- where the one exchanges the other does, and what holds of it stays so
pub record IsSeenAs {V W : Type 0} (G : Ghosts V) (H : Ghosts W) (f : V → W) (Holds : V → Type 0) : Type 0 where
  pub exchange : (a : V) (x : Exchange) (b : V) → Holds a → IsExchange G a x b → IsExchange H (f a) x (f b) × Holds b

seen_at : {V W : Type 0} → (V → W) → Point V → Point W
seen_at f p = point (f p.service) p.ahead p.source p.sink

turns_seen : {V W : Type 0} (G : Ghosts V) (H : Ghosts W) (f : V → W) (Holds : V → Type 0) → IsSeenAs G H f Holds → (a b : Point V) (xs : List Exchange) → Holds a.service → AreTurns G a xs b
    → AreTurns H (seen_at f a) xs (seen_at f b) × Holds b.service
unfolding seen_at
turns_seen {V} G H f Holds is a b [] here same = (ap (seen_at f) same, subst (λ (p : Point V). Holds p.service) (sym same) here)
turns_seen G H f Holds is a b (x ∷ xs) here (mid, turn, takes, later) =
    let one = is.exchange a.service x mid.service here turn.answered in
    let others = turns_seen G H f Holds is mid b xs one.1 later in
    ((seen_at f mid, record { read = turn.read; answered = one.0 }, takes, others.0), others.1)

down_seen : {V W : Type 0} (f : V → W) (Holds : V → Type 0) (a b : Point V) (fault : InputFault) → Holds a.service → IsTurnedDown a fault b → IsTurnedDown (seen_at f a) fault (seen_at f b) × Holds b.service
unfolding seen_at
down_seen f Holds a b fault here down = (record { refused = down.refused; stays = ap f down.stays }, subst Holds (sym down.stays) here)

last_seen : {V W : Type 0} (G : Ghosts V) (H : Ghosts W) (f : V → W) (Holds : V → Type 0) → IsSeenAs G H f Holds → (a b : Point V) (ending : Ending) → Holds a.service → IsLastTurn G a ending b
    → IsLastTurn H (seen_at f a) ending (seen_at f b) × Holds b.service
unfolding seen_at
last_seen G H f Holds is a b endings.End here (last, same, kept) = ((last, ap f same, kept), subst Holds (sym same) here)
last_seen G H f Holds is a b (endings.Refused fault) here (down, takes) = let seen = down_seen f Holds a b fault here down in ((seen.0, takes), seen.1)
last_seen G H f Holds is a b endings.Unwritten here (inl (x, turn, fails)) =
    let one = is.exchange a.service x b.service here turn.answered in
    (inl (x, record { read = turn.read; answered = one.0 }, fails), one.1)
last_seen G H f Holds is a b endings.Unwritten here (inr (fault, down, fails)) = let seen = down_seen f Holds a b fault here down in (inr (fault, seen.0, fails), seen.1)

pub conversation_seen : {V W : Type 0} (G : Ghosts V) (H : Ghosts W) (f : V → W) (Holds : V → Type 0) → IsSeenAs G H f Holds → (u v : V) (s t : SourceState) (d e : Device) (ending : Ending) → Holds u
    → IsConversation G u v s t d e ending → IsConversation H (f u) (f v) s t d e ending × Holds v
unfolding seen_at
conversation_seen G H f Holds is u v s t d e ending here (xs, mid, ahead, turns, last) =
    let before = turns_seen G H f Holds is (point u [] s d) mid xs here turns in
    let behind = last_seen G H f Holds is mid (point v ahead t e) ending before.1 last in
    ((xs, seen_at f mid, ahead, before.0, behind.0), behind.1)
