-- What comes from a source, piece by piece.
use Rattle.std.proofs.Common.{◌≡◌, ◌∙◌, ◌+◌, ◌-◌, ◌<◌, ◌≤◌, ◌++◌, ◌∷◌, [], ℕ, List, Some, Bool, true, false, length, get_or, take, refl, sym, ap, subst, append_assoc, append-nil, length-append, arith, ◌⊎◌, inl, inr}
use Rattle.std.specs.Prelude.{slice_get}
use Rattle.std.specs.List.{Contains}
use Rattle.std.proofs.KnownBytes.{Consumes-nil, Consumes-trans}
use Rattle.std.proofs.lemmas.List.{nil_from_length, take_all, take_more}
use Rattle.std.proofs.lemmas.Option.{get_or_from_slice_get, slice_get-get_or, slice_get_within}
use Rattle.std.proofs.Math.Seq.{get_or-append_right, take-append_seam}
use Rattle.std.proofs.Math.ListN.{get_or-append}
use Rattle.std.proofs.lemmas.Bool.{eqb-true}
use Rattle.std.proofs.Math.Dec.{eqb}
use Rattle.device.specs.Device.{HasFailed}
use Rattle.source_lines.specs.Lines.{Advances, AtHand, IsNoLine, IsReady, IsWholeLine}
use Rattle.source_lines.specs.Sources.{Gives, IsReadOn, SourceState}
use Rattle.source_lines.specs.declared.fault.StreamFault.{StreamFault}
use Rattle.source_lines.specs.declared.fault.StreamFault.TheVariants.{Io, Memory}
use Rattle.speech.specs.Conversations.{Comes, ComesPayload, HasEnded, IsLast, LacksLine, LacksPayload}
use Rattle.speech.specs.Turns.{IsPassed, told_as}
use Rattle.speech.specs.declared.input_fault.InputFault.TheVariants as faults

gives_more : (a b c : SourceState) (xs ys : List ℕ) → Gives a b xs → Gives b c ys → Gives a c (xs ++ ys)
gives_more a b c xs ys g h = record {
  consumed = Consumes-trans a.left b.left c.left xs ys g.consumed h.consumed;
  fell = omega (arith, g.fell, h.fell, length-append xs ys);
}

-- a ++ x is b ++ c, and c ++ y is d ++ e
in_order : (a b c d e x y : List ℕ) → a ++ x ≡ b ++ c → c ++ y ≡ d ++ e → a ++ (x ++ y) ≡ (b ++ d) ++ e
in_order a b c d e x y h k =
    sym (append_assoc a x y) ∙ ap (λ l. l ++ y) h ∙ append_assoc b c y ∙ ap (λ l. b ++ l) k ∙ sym (append_assoc b d e)

pub comes_none : (ahead : List ℕ) (s : SourceState) → Comes ahead ahead s s []
comes_none ahead s = record { read = []; given = record { consumed = Consumes-nil s.left; fell = omega arith }; in_order = append-nil ahead; unfailed = refl }

pub comes_more : (a b c : List ℕ) (s t u : SourceState) (xs ys : List ℕ) → Comes a b s t xs → Comes b c t u ys → Comes a c s u (xs ++ ys)
comes_more a b c s t u xs ys h k = record {
  read = h.read ++ k.read;
  given = gives_more s t u h.read k.read h.given k.given;
  in_order = in_order a xs b ys c h.read k.read h.in_order k.in_order;
  unfailed = k.unfailed ∙ h.unfailed;
}

-- the line at hand came
pub hand_comes : (old new : AtHand) (s t : SourceState) → Advances old new s t → Comes old.ahead new.ahead s t new.line
hand_comes old new s t h = record { read = h.read; given = h.given; in_order = h.in_order; unfailed = h.unfailed }

-- some came, and then a read failed or memory was refused
pub lacks_line : (fault : StreamFault) (hand : AtHand) (s t : SourceState) → IsNoLine fault hand s t → LacksLine (told_as fault) hand.ahead s t
lacks_line Io hand s t h = (hand.ahead ++ h.read, record { read = h.read; given = h.given; in_order = refl; failed = h.failed }, h.none)
lacks_line Memory hand s t h = h

pub reads_on : (a b : List ℕ) (s t u : SourceState) (xs : List ℕ) → Comes a b s t xs → IsReadOn t u → IsReadOn s u
reads_on a b s t u xs h k = record {
  lost = (h.read ++ k.lost.0, Consumes-trans s.left t.left u.left h.read k.lost.0 h.given.consumed k.lost.1, omega (arith, h.given.fell, k.lost.2, length-append h.read k.lost.0));
  unfailed = k.unfailed ∙ h.unfailed;
}

-- ---- line feeds

last_by : (old new : AtHand) (s t : SourceState) → Advances old new s t → ((front : List ℕ) → new.line ≡ front ++ (10 ∷ []) → ⊥) → IsReady new t → IsLast old.ahead s t new.line × (Contains new.line 10 → ⊥)
last_by old new s t h feedless (inl w) = absurd (feedless w.front w.ended)
last_by old new s t h feedless (inr (none, empty, end)) =
    let P : List ℕ → Type 0 = λ a. Comes old.ahead a s t new.line in
    (record { comes = subst P empty (hand_comes old new s t h); end = end }, none)

-- one that does not is the last
pub last_line : (old new : AtHand) (s t : SourceState) → Advances old new s t → ((front : List ℕ) → new.line ≡ front ++ (10 ∷ []) → ⊥) → IsLast old.ahead s t new.line × (Contains new.line 10 → ⊥)
last_line old new s t h feedless = last_by old new s t h feedless h.ready

no_feed : (front : List ℕ) → [] ≡ front ++ (10 ∷ []) → ⊥
no_feed front e = omega (arith, length-append front (10 ∷ []), ap length e)

-- ---- a payload, line by line

-- of what came so far, a line feed behind so many bytes is the last byte
pub record IsPart (size : ℕ) (payload : List ℕ) : Type 0 where
  pub last : HasEnded size payload → length payload ≡ size + 1

get_behind : (xs ys : List ℕ) (k x : ℕ) → length xs ≤ k → slice_get (xs ++ ys) k ≡ Some x → slice_get ys (k - length xs) ≡ Some x
get_behind xs ys k x low e =
    let below : k < length (xs ++ ys) = slice_get_within (xs ++ ys) k x e in
    let within : k - length xs < length ys = omega (arith, length-append xs ys) in
    slice_get-get_or ys (k - length xs) x within ∙ ap Some (sym (get_or-append_right xs ys k x low) ∙ get_or_from_slice_get (xs ++ ys) k x x e)

contains_at : (xs : List ℕ) (k x : ℕ) → slice_get xs k ≡ Some x → Contains xs x
contains_at xs k x e = (k, slice_get_within xs k x e, get_or_from_slice_get xs k x x e)

feed_ends_front : (line front : List ℕ) (k : ℕ) → line ≡ front ++ (10 ∷ []) → (Contains front 10 → ⊥) → slice_get line k ≡ Some 10 → length line ≡ k + 1
feed_ends_front line front k ended single e =
    let below : k < length line = slice_get_within line k 10 e in
    let long : length line ≡ length front + 1 = ap length ended ∙ length-append front (10 ∷ []) in
    let P : List ℕ → Type 0 = λ l. slice_get l k ≡ Some 10 in
    let at : get_or (front ++ (10 ∷ [])) k 10 ≡ 10 = get_or_from_slice_get (front ++ (10 ∷ [])) k 10 10 (subst P ended e) in
    let not_before : k < length front → ⊥ = λ before. single (k, before, sym (get_or-append front (10 ∷ []) 10 k before) ∙ at) in
    omega (arith, below, long, not_before)

-- where a whole line has a line feed, it ends
feed_ends : (line : List ℕ) (k : ℕ) → IsWholeLine line → slice_get line k ≡ Some 10 → length line ≡ k + 1
feed_ends line k w e = feed_ends_front line w.front k w.ended w.single e

feed_by : (line : List ℕ) (k : ℕ) → IsWholeLine line ⊎ (Contains line 10 → ⊥) → slice_get line k ≡ Some 10 → length line ≡ k + 1
feed_by line k (inl w) e = feed_ends line k w e
feed_by line k (inr none) e = absurd (none (contains_at line k 10 e))

pub part_more : (size : ℕ) (payload line : List ℕ) → length payload ≤ size → IsWholeLine line ⊎ (Contains line 10 → ⊥) → IsPart size (payload ++ line)
part_more size payload line low ready = record {
  last = λ e.
      let long = feed_by line (size - length payload) ready (get_behind payload line size 10 low e) in
      omega (arith, long, length-append payload line);
}

-- the last byte is no line feed
pub feedless : (size : ℕ) (payload : List ℕ) → IsPart size payload → ((front : List ℕ) → payload ≡ front ++ (10 ∷ []) → ⊥) → HasEnded size payload → ⊥
feedless size payload part none e =
    let below : size < length payload = slice_get_within payload size 10 e in
    let at : get_or payload size 10 ≡ 10 = get_or_from_slice_get payload size 10 10 e in
    none (take size payload) (sym (take_all (size + 1) payload (omega (arith, part.last e))) ∙ take_more payload size 10 below ∙ ap (λ b. take size payload ++ (b ∷ [])) at)

-- it is, and stands elsewhere
pub elsewhere : (size : ℕ) (payload front : List ℕ) → IsPart size payload → payload ≡ front ++ (10 ∷ []) → (length front ≡ size → ⊥) → HasEnded size payload → ⊥
elsewhere size payload front part is other e = other (omega (arith, part.last e, ap length is, length-append front (10 ∷ [])))

pub is_read_on : (a b : List ℕ) (s t : SourceState) (xs : List ℕ) → Comes a b s t xs → IsReadOn s t
is_read_on a b s t xs h = record { lost = (h.read, h.given.consumed, h.given.fell); unfailed = h.unfailed }

pub no_bytes : (xs : List ℕ) (b : Bool) → b ≡ eqb (length xs) 0 → b ≡ true → xs ≡ []
no_bytes xs b is none = nil_from_length xs (eqb-true (length xs) 0 (sym is ∙ none))

pub some_bytes : (xs : List ℕ) (b : Bool) → b ≡ eqb (length xs) 0 → b ≡ false → xs ≡ [] → ⊥
some_bytes xs b is some none = let none_is : b ≡ true = is ∙ ap (λ (l : List ℕ). eqb (length l) 0) none in cc

whole_or_none : (hand : AtHand) (s : SourceState) → IsReady hand s → IsWholeLine hand.line ⊎ (Contains hand.line 10 → ⊥)
whole_or_none hand s (inl w) = inl w
whole_or_none hand s (inr h) = inr h.0

-- one line more of a payload
pub payload_more : (size : ℕ) (a : List ℕ) (old new : AtHand) (s t u : SourceState) (payload line items : List ℕ) → Comes a old.ahead s t payload → IsPart size payload → length payload ≤ size → Advances old new t u
    → line ≡ new.line → items ≡ payload ++ line → Comes a new.ahead s u items × IsPart size items
payload_more size a old new s t u payload line items h part low k same is =
    let all : items ≡ payload ++ new.line = is ∙ ap (λ l. payload ++ l) same in (
      subst (λ (l : List ℕ). Comes a new.ahead s u l) (sym all) (comes_more a old.ahead new.ahead s t u payload new.line h (hand_comes old new t u k)),
      subst (IsPart size) (sym all) (part_more size payload new.line low (whole_or_none new u k.ready)),
    )

-- what came is the payload with its line feed
pub payload_is : (size : ℕ) (a b : List ℕ) (s t : SourceState) (payload front items : List ℕ) → Comes a b s t payload → payload ≡ front ++ (10 ∷ []) → items ≡ take (length front) payload → length front ≡ size
    → ComesPayload size a b s t items
payload_is size a b s t payload front items h is kept long =
    let same : items ≡ front = kept ∙ ap (take (length front)) is ∙ take-append_seam front (10 ∷ []) in
    record {
      comes = subst (λ (l : List ℕ). Comes a b s t l) (is ∙ ap (λ l. l ++ (10 ∷ [])) (sym same)) h;
      long = ap length same ∙ long;
    }

-- no line, and then no payload
pub lacks_payload : (fault : StreamFault) (size : ℕ) (a : List ℕ) (hand : AtHand) (s t u : SourceState) (payload : List ℕ) → Comes a hand.ahead s t payload → length payload ≤ size
    → IsNoLine fault hand t u → LacksPayload (told_as fault) size a s u
lacks_payload Io size a hand s t u payload h low k = (
  payload ++ (hand.ahead ++ k.read),
  record {
    read = h.read ++ k.read;
    given = gives_more s t u h.read k.read h.given k.given;
    in_order = sym (append_assoc a h.read k.read) ∙ ap (λ l. l ++ k.read) h.in_order ∙ append_assoc payload hand.ahead k.read;
    failed = subst (λ (n : ℕ). HasFailed n u.failures) h.unfailed k.failed;
  },
  λ e. k.none (contains_at (hand.ahead ++ k.read) (size - length payload) 10 (get_behind payload (hand.ahead ++ k.read) size 10 low e)),
)
lacks_payload Memory size a hand s t u payload h low k = reads_on a hand.ahead s t u payload h k

-- the source ended
pub cut_payload : (size : ℕ) (a : List ℕ) (old new : AtHand) (s t u : SourceState) (payload : List ℕ) → Comes a old.ahead s t payload → length payload ≤ size → Advances old new t u → new.line ≡ []
    → LacksPayload faults.Cut size a s u
cut_payload size a old new s t u payload h low k empty =
    let last = (last_line old new t u k (λ front e. no_feed front (sym empty ∙ e))).0 in
    let P : List ℕ → Type 0 = λ l. Comes old.ahead [] t u l in
    (payload, record { comes = subst (λ (l : List ℕ). Comes a [] s u l) (append-nil payload) (comes_more a old.ahead [] s t u payload [] h (subst P empty last.comes)); end = last.end }, low)

-- the source ended in a line
pub cut_line : (old new : AtHand) (s t : SourceState) → Advances old new s t → ((front : List ℕ) → new.line ≡ front ++ (10 ∷ []) → ⊥) → (new.line ≡ [] → ⊥) → LacksLine faults.Cut old.ahead s t
cut_line old new s t h feedless some = let last = last_line old new s t h feedless in (new.line, last.0, last.1, some)

-- ---- a payload that is passed over, line by line

-- some of so many bytes came, and this many are to come
pub record IsPassing (size left : ℕ) (old new : List ℕ) (before after : SourceState) : Type 0 where
  pub passed : List ℕ
  pub comes : Comes old new before after passed
  pub long : length passed + left ≡ size

-- one line more
pub passing_more : (size left rest : ℕ) (a : List ℕ) (old new : AtHand) (s t u : SourceState) → IsPassing size left a old.ahead s t → Advances old new t u → left ≡ rest + length new.line
    → IsPassing size rest a new.ahead s u
passing_more size left rest a old new s t u h k fewer = record {
  passed = h.passed ++ new.line;
  comes = comes_more a old.ahead new.ahead s t u h.passed new.line h.comes (hand_comes old new t u k);
  long = omega (arith, h.long, fewer, length-append h.passed new.line);
}

-- the last line ends behind the bytes, with the line feed
pub passed_whole : (size left : ℕ) (a : List ℕ) (old new : AtHand) (s t u : SourceState) (front : List ℕ) → IsPassing size left a old.ahead s t → Advances old new t u → new.line ≡ front ++ (10 ∷ []) → length front ≡ left
    → IsPassed size a new.ahead s u
passed_whole size left a old new s t u front h k ended long =
    let all = comes_more a old.ahead new.ahead s t u h.passed new.line h.comes (hand_comes old new t u k) in
    let same : h.passed ++ new.line ≡ (h.passed ++ front) ++ (10 ∷ []) = ap (λ l. h.passed ++ l) ended ∙ sym (append_assoc h.passed front (10 ∷ [])) in
    (h.passed ++ front, record { comes = subst (λ (l : List ℕ). Comes a new.ahead s u l) same all; long = omega (arith, h.long, long, length-append h.passed front) })

line_part : (size : ℕ) (hand : AtHand) (s : SourceState) → IsReady hand s → IsPart size hand.line
line_part size hand s ready = record { last = feed_by hand.line size (whole_or_none hand s ready) }

-- it reaches behind them, and no line feed stands there
lacks_feed : (size left : ℕ) (a : List ℕ) (old new : AtHand) (s t u : SourceState) (h : IsPassing size left a old.ahead s t) → Advances old new t u → left < length new.line
    → (HasEnded (size - length h.passed) new.line → ⊥) → LacksPayload faults.LineFeed size a s u
lacks_feed size left a old new s t u h k more none = (
  h.passed ++ new.line,
  new.ahead,
  comes_more a old.ahead new.ahead s t u h.passed new.line h.comes (hand_comes old new t u k),
  omega (arith, h.long, more, length-append h.passed new.line),
  λ e. none (get_behind h.passed new.line size 10 (omega (arith, h.long)) e),
)

pub passed_feedless : (size left : ℕ) (a : List ℕ) (old new : AtHand) (s t u : SourceState) → IsPassing size left a old.ahead s t → Advances old new t u → left < length new.line
    → ((front : List ℕ) → new.line ≡ front ++ (10 ∷ []) → ⊥) → LacksPayload faults.LineFeed size a s u
passed_feedless size left a old new s t u h k more none =
    lacks_feed size left a old new s t u h k more (feedless (size - length h.passed) new.line (line_part (size - length h.passed) new u k.ready) none)

pub passed_elsewhere : (size left : ℕ) (a : List ℕ) (old new : AtHand) (s t u : SourceState) (front : List ℕ) → IsPassing size left a old.ahead s t → Advances old new t u → left < length new.line
    → new.line ≡ front ++ (10 ∷ []) → (length front ≡ left → ⊥) → LacksPayload faults.LineFeed size a s u
passed_elsewhere size left a old new s t u front h k more ended other =
    lacks_feed size left a old new s t u h k more
    (elsewhere (size - length h.passed) new.line front (line_part (size - length h.passed) new u k.ready) ended (λ e. other (omega (arith, h.long, e))))

-- no line, or the source ended
pub lacks_passing : (fault : StreamFault) (size left : ℕ) (a : List ℕ) (hand : AtHand) (s t u : SourceState) → IsPassing size left a hand.ahead s t → IsNoLine fault hand t u → LacksPayload (told_as fault) size a s u
lacks_passing fault size left a hand s t u h k = lacks_payload fault size a hand s t u h.passed h.comes (omega (arith, h.long)) k

pub cut_passing : (size left : ℕ) (a : List ℕ) (old new : AtHand) (s t u : SourceState) → IsPassing size left a old.ahead s t → Advances old new t u → new.line ≡ [] → LacksPayload faults.Cut size a s u
cut_passing size left a old new s t u h k empty = cut_payload size a old new s t u h.passed h.comes (omega (arith, h.long)) k empty
