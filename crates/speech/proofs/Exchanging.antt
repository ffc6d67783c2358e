-- A conversation as a whole, and one that is seen by another service.
use Rattle.std.proofs.Common.{◌≡◌, ◌∙◌, ◌++◌, ◌∷◌, [], ℕ, List, inl, inr, refl, sym, ap, subst, append-nil}
use Rattle.std.specs.List.{flat_map}
use Rattle.std.proofs.KnownBytes.{Appends-nil, Appends-trans}
use Rattle.std.proofs.lemmas.Grind.{flat_map-append}
use Rattle.source_lines.specs.Sources.{SourceState}
use Rattle.telling.proofs.Joined.{begun, failed}
use Rattle.telling.specs.Devices.{Device, FailsIn, Takes}
use Rattle.speech.proofs.Coming.{comes_more, comes_none}
use Rattle.speech.specs.Conversations.{AreExchanges, AreTurns, Comes, Exchange, IsConversation, IsExchange, IsLastTurn, Point, point, text_asked, text_told, told_of}
use Rattle.speech.specs.Replies.{reply_text}
use Rattle.speech.specs.Wholes.{IsExchanged, replies}
use Rattle.speech.specs.declared.conversation.Ending.{Ending}
use Rattle.speech.specs.declared.conversation.Ending.TheVariants as endings
use Rattle.speech.specs.declared.service.Service.{Ghosts}

-- ---- as a whole

one_more : (f : Exchange → List ℕ) (xs : List Exchange) (x : Exchange) → flat_map f xs ++ f x ≡ flat_map f (xs ++ (x ∷ []))
one_more f xs x = sym (flat_map-append f xs (x ∷ []) ∙ ap (λ l. flat_map f xs ++ l) (append-nil (f x)))

takes_more : (a b c : Device) (xs ys : List ℕ) → Takes a b xs → Takes b c ys → Takes a c (xs ++ ys)
takes_more a b c xs ys h k = (Appends-trans a.0 b.0 c.0 xs ys h.0 k.0, k.1 ∙ h.1)

fails_more : (a b c : Device) (xs ys : List ℕ) → Takes a b xs → FailsIn b c ys → FailsIn a c (xs ++ ys)
fails_more a b c xs ys h k =
    (begun a.0 b.0 c.0 xs ys [] (xs ++ ys) (ap (λ l. xs ++ l) (sym (append-nil ys))) h.0 k.0, failed a.1 b.1 c.1 h.1 k.1)

exchanges_more : {V : Type 0} (G : Ghosts V) (a b c : V) (xs : List Exchange) (x : Exchange) → AreExchanges G a xs b → IsExchange G b x c → AreExchanges G a (xs ++ (x ∷ [])) c
exchanges_more {V} G a b c [] x h k = let P : V → Type 0 = λ v. IsExchange G v x c in (c, subst P h k, refl)
exchanges_more {V} G a b c (y ∷ ys) x h k = (h.0, h.1, exchanges_more G h.0 b c ys x h.2 k)

-- turns are exchanges, whose lines come and whose replies are taken
turned : {V : Type 0} (G : Ghosts V) (a b : Point V) (xs : List Exchange) → AreTurns G a xs b
    → AreExchanges G a.service xs b.service × Comes a.ahead b.ahead a.source b.source (flat_map text_asked xs) × Takes a.sink b.sink (replies xs)
turned {V} G a b [] h =
    let P : Point V → Type 0 = λ p. AreExchanges G a.service [] p.service × Comes a.ahead p.ahead a.source p.source [] × Takes a.sink p.sink [] in
    subst P (sym h) (refl, comes_none a.ahead a.source, (Appends-nil a.sink.0, refl))
turned {V} G a b (x ∷ xs) (mid, is, takes, later) =
    let others = turned G mid b xs later in (
      (mid.service, is.answered, others.0),
      comes_more a.ahead mid.ahead b.ahead a.source mid.source b.source (text_asked x) (flat_map text_asked xs) is.read others.1,
      takes_more a.sink mid.sink b.sink (text_told x) (replies xs) takes others.2,
    )

-- the end of a conversation, behind its turns
pub whole : {V : Type 0} (G : Ghosts V) (v : V) (s : SourceState) (d : Device) (xs : List Exchange) (b c : Point V) (ending : Ending) → AreTurns G (point v [] s d) xs b → IsLastTurn G b ending c
    → IsExchanged G v c.service s c.source d c.sink ending
whole {V} G v s d xs b c endings.End h (last, same, kept) =
    let all = turned G (point v [] s d) b xs h in
    let P : V → Type 0 = λ u. AreExchanges G v xs u in
    let Q : Device → Type 0 = λ e. Takes d e (replies xs) in
    record { xs = xs; run = subst P (sym same) all.0; ahead = b.ahead; then = b.source; read = all.1; end = (last, subst Q (sym kept) all.2) }
whole {V} G v s d xs b c (endings.Refused fault) h (down, takes) =
    let all = turned G (point v [] s d) b xs h in
    let P : V → Type 0 = λ u. AreExchanges G v xs u in
    record {
      xs = xs;
      run = subst P (sym down.stays) all.0;
      ahead = b.ahead;
      then = b.source;
      read = all.1;
      end = (down.refused, takes_more d b.sink c.sink (replies xs) (reply_text (told_of fault)) all.2 takes);
    }
whole {V} G v s d xs b c endings.Unwritten h (inl (x, is, fails)) =
    let all = turned G (point v [] s d) b xs h in
    record {
      xs = xs ++ (x ∷ []);
      run = exchanges_more G v b.service c.service xs x all.0 is.answered;
      ahead = c.ahead;
      then = c.source;
      read = subst (λ (l : List ℕ). Comes [] c.ahead s c.source l) (one_more text_asked xs x) (comes_more [] b.ahead c.ahead s b.source c.source (flat_map text_asked xs) (text_asked x) all.1 is.read);
      end = inl (refl, subst (FailsIn d c.sink) (one_more text_told xs x) (fails_more d b.sink c.sink (replies xs) (text_told x) all.2 fails));
    }
whole {V} G v s d xs b c endings.Unwritten h (inr (fault, down, fails)) =
    let all = turned G (point v [] s d) b xs h in
    let P : V → Type 0 = λ u. AreExchanges G v xs u in
    record {
      xs = xs;
      run = subst P (sym down.stays) all.0;
      ahead = b.ahead;
      then = b.source;
      read = all.1;
      end = inr (fault, down.refused, fails_more d b.sink c.sink (replies xs) (reply_text (told_of fault)) all.2 fails);
    }

pub exchanged : {V : Type 0} (G : Ghosts V) (u v : V) (s t : SourceState) (d e : Device) (ending : Ending) → IsConversation G u v s t d e ending → IsExchanged G u v s t d e ending
exchanged {V} G u v s t d e ending (xs, mid, ahead, turns, last) = whole G u s d xs mid (point v ahead t e) ending turns last
