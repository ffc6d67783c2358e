-- Reading a whole text: where it stands between two tokens.
use Rattle.std.proofs.Common.{◌≡◌, ℕ, ◌+◌, ◌-◌, ◌<◌, ◌≤◌, true, false, List, [], ◌∷◌, ◌++◌, length, get_or, take, drop, Option, Some, None, refl, sym, ap, subst, ◌∙◌, append_assoc, arith}
use Rattle.std.specs.Str.{IsUtf8, IsCharBoundary}
use Rattle.std.proofs.lemmas.Str.{IsCharBoundary-before_ascii, IsCharBoundary-after_ascii}
use Rattle.std.proofs.lemmas.Bool.{and_parts, false≢true}
use Rattle.std.proofs.lemmas.Bool.Decides.{nat_tests}
use Rattle.std.proofs.lemmas.Option.{none-some, same_Some}
use Rattle.std.proofs.lemmas.List.{length-append, get_or-append-add}
use Rattle.std.proofs.Math.Seq.{drop-append_seam, take-append_seam}
use Rattle.fs_lexer.specs.Spelling.{Token, Kind, Opening, Closing, Equals, Carets, FullIri, Quoted, LanguageTag, Keyword, Integer, PrefixName, ShortName, NodeLabel, IsOfKind, is_word_byte, begins, ends_with_word, Spells, SpellsFrom, AreSlicesFrom}
use Rattle.fs_lexer.specs.Reading.{Found, skip, token_at, ahead}
use Rattle.fs_lexer.proofs.Pieces.{skip_takes}
use Rattle.fs_lexer.proofs.Words.{IsWordRun, word_runs}
use Rattle.fs_lexer.proofs.Fronts.{token_takes, run_ends, tag_in_word}
use Rattle.fs_lexer.specs.Faults.{is_gap_byte, IsNext}
use Rattle.fs_lexer.proofs.Places.{IsUpTo, up_to_none, up_to_next, up_to_here, skip_is_done}
use Rattle.fs_lexer.proofs.Whole.{IsReadSoFar, none_yet, one_more, all_read, none_read}

-- ---- a token begins and ends with an ASCII byte

pub record HasEnds (text : List ℕ) : Type 0 where
  pub first : ℕ
  pub after : List ℕ
  pub begins : text ≡ first ∷ after
  pub first_small : first < 128
  pub before : List ℕ
  pub last : ℕ
  pub ends : text ≡ before ++ last ∷ []
  pub last_small : last < 128

word_small : (b : ℕ) → is_word_byte b ≡ true → b < 128
word_small b h = grind (arith, nat_tests)

last_word : (text : List ℕ) → ends_with_word text ≡ true → (before : List ℕ) × (last : ℕ) × (text ≡ before ++ last ∷ []) × (last < 128)
last_word [] h = absurd (false≢true h)
last_word (b ∷ []) h = ([], b, refl, word_small b h)
last_word (b ∷ c ∷ bs) h = let r = last_word (c ∷ bs) h in (b ∷ r.0, r.1, ap (λ (s : List ℕ). b ∷ s) r.2, r.3)

word_ends : (text : List ℕ) → IsWordRun text → HasEnds text
word_ends [] h = absurd (false≢true h)
word_ends (b ∷ bs) h =
    let r = last_word (b ∷ bs) (run_ends (b ∷ bs) h) in
    record { first = b; after = bs; begins = refl; first_small = word_small b (and_parts (is_word_byte b) _ h).0; before = r.0; last = r.1; ends = r.2; last_small = r.3 }

sign_ends : (text before after : List ℕ) (first last : ℕ) → text ≡ first ∷ after → text ≡ before ++ last ∷ [] → first < 128 → last < 128 → HasEnds text
sign_ends text before after first last b e f l = record { first = first; after = after; begins = b; first_small = f; before = before; last = last; ends = e; last_small = l }

tag_ends : (text body : List ℕ) → text ≡ 64 ∷ body → IsWordRun body → HasEnds text
tag_ends text [] e h = absurd (false≢true h)
tag_ends text (b ∷ bs) e h =
    let r = last_word (b ∷ bs) (run_ends (b ∷ bs) h) in
    sign_ends text (64 ∷ r.0) (b ∷ bs) 64 r.1 e (e ∙ ap (λ (s : List ℕ). 64 ∷ s) r.2) (omega arith) r.3

pub kind_ends : (kind : Kind) (text : List ℕ) → IsOfKind kind text → HasEnds text
kind_ends Opening text e = sign_ends text [] [] 40 40 e e (omega arith) (omega arith)
kind_ends Closing text e = sign_ends text [] [] 41 41 e e (omega arith) (omega arith)
kind_ends Equals text e = sign_ends text [] [] 61 61 e e (omega arith) (omega arith)
kind_ends Carets text e = sign_ends text (94 ∷ []) (94 ∷ []) 94 94 e e (omega arith) (omega arith)
kind_ends FullIri text (iri, e, h) = sign_ends text (60 ∷ iri) (iri ++ 62 ∷ []) 60 62 e e (omega arith) (omega arith)
kind_ends Quoted text (body, e, h) = sign_ends text (34 ∷ body) (body ++ 34 ∷ []) 34 34 e e (omega arith) (omega arith)
kind_ends LanguageTag text (body, e, h) = tag_ends text body e (tag_in_word body h)
kind_ends Keyword text h = word_ends text (word_runs Keyword text tt h)
kind_ends Integer text h = word_ends text (word_runs Integer text tt h)
kind_ends PrefixName text h = word_ends text (word_runs PrefixName text tt h)
kind_ends ShortName text h = word_ends text (word_runs ShortName text tt h)
kind_ends NodeLabel text h = word_ends text (word_runs NodeLabel text tt h)

-- ---- between two tokens

-- these tokens have been read, and the rest begins with the next one
pub record IsState (text : List ℕ) (tokens : List Token) (rest : List ℕ) : Type 0 where
  pub unread : List ℕ
  pub so : IsReadSoFar text tokens unread
  pub here : rest ≡ skip unread
  pub front : List ℕ
  pub whole : text ≡ front ++ rest
  pub before : List ℕ
  pub up_to : IsUpTo text before tokens unread

pub skip_shorter : (text : List ℕ) → length (skip text) ≤ length text
skip_shorter text = let g = skip_takes text in omega (arith, ap length g.whole, length-append g.gap (skip text))

pub first_state : (text : List ℕ) → IsState text [] (skip text)
first_state text = let g = skip_takes text in record { unread = text; so = none_yet text; here = refl; front = g.gap; whole = g.whole; before = []; up_to = up_to_none text }

-- the next token, from where the rest begins to where the others do
abbrev pub next_token : List ℕ → List ℕ → List ℕ → Kind → Token
next_token text rest others kind = record {
  kind = kind;
  text = take (length text - length others - (length text - length rest)) (drop (length text - length rest) text);
  at = length text - length rest;
}

pub record IsStep (text : List ℕ) (tokens : List Token) (rest others : List ℕ) (kind : Kind) : Type 0 where
  pub within : length rest ≤ length text
  pub shorter : length others < length rest
  pub begins : IsCharBoundary text (length text - length rest)
  pub ends : IsCharBoundary text (length text - length others)
  pub next : IsState text (tokens ++ next_token text rest others kind ∷ []) (skip others)

pub ahead_was : (o : Option Found) (kind : Kind) (others : List ℕ) → Some (kind, others) ≡ ahead o → (text : List ℕ) × (o ≡ Some (kind, text, others))
ahead_was None kind others e = absurd (none-some (kind, others) (sym e))
ahead_was (Some f) kind others e =
    let p : Kind × List ℕ = (kind, others) in
    let q : Kind × List ℕ = (f.0, f.2) in
    let same : p ≡ q = same_Some p q e in
    (f.1, ap (λ (k : Kind). Some (k, f.1, f.2)) (sym (ap (λ (x : Kind × List ℕ). x.0) same)) ∙ ap (λ (s : List ℕ). Some (kind, f.1, s)) (sym (ap (λ (x : Kind × List ℕ). x.1) same)))

pub ahead_none : (o : Option Found) → None ≡ ahead o → o ≡ None
ahead_none None e = refl
ahead_none (Some f) e = absurd (none-some _ e)

pub something : (xs : List ℕ) → 0 < length xs → xs ≡ [] → ⊥
something xs l e = absurd (omega (arith, ap length e))

pub next_state : (text : List ℕ) (tokens : List Token) (rest others : List ℕ) (kind : Kind) → IsUtf8 text → IsState text tokens rest → Some (kind, others) ≡ ahead (token_at rest) → IsStep text tokens rest others kind
next_state text tokens rest others kind utf8 s e =
    let w = ahead_was (token_at rest) kind others e in
    let f = token_takes rest (kind, w.0, others) w.1 in
    let h = kind_ends kind w.0 f.of_kind in
    let g = skip_takes others in
    let total : length text ≡ length s.front + length rest = ap length s.whole ∙ length-append s.front rest in
    let parts : length rest ≡ length w.0 + length others = ap length f.whole ∙ length-append w.0 others in
    let some : 0 < length w.0 = omega (arith, ap length h.begins) in
    let many : length w.0 ≡ length h.before + 1 = ap length h.ends ∙ length-append h.before (h.last ∷ []) in
    let at : length text - length rest ≡ length s.front + 0 = omega arith in
    let at_end : length text - length others ≡ length (s.front ++ h.before) + 1 = omega (arith, length-append s.front h.before) in
    let size : length text - length others - (length text - length rest) ≡ length w.0 = omega arith in
    let tail : text ≡ (s.front ++ h.before) ++ h.last ∷ others =
    s.whole ∙ ap (λ (x : List ℕ). s.front ++ x) (f.whole ∙ ap (λ (x : List ℕ). x ++ others) h.ends ∙ append_assoc h.before (h.last ∷ []) others)
    ∙ sym (append_assoc s.front h.before (h.last ∷ others)) in
    let first_byte : get_or text (length s.front + 0) 0 ≡ h.first =
    ap (λ (x : List ℕ). get_or x (length s.front + 0) 0) s.whole ∙ get_or-append-add s.front rest 0 0 ∙ ap (λ (x : List ℕ). get_or x 0 0) (f.whole ∙ ap (λ (x : List ℕ). x ++ others) h.begins) in
    let last_byte : get_or text (length (s.front ++ h.before) + 0) 0 ≡ h.last =
    ap (λ (x : List ℕ). get_or x (length (s.front ++ h.before) + 0) 0) tail ∙ get_or-append-add (s.front ++ h.before) (h.last ∷ others) 0 0 in
    let plus : length (s.front ++ h.before) + 0 + 1 ≡ length (s.front ++ h.before) + 1 = omega arith in
    let begins : IsCharBoundary text (length s.front + 0) = IsCharBoundary-before_ascii text (length s.front + 0) (omega arith) (omega (arith, first_byte, h.first_small)) in
    let ends : IsCharBoundary text (length (s.front ++ h.before) + 0 + 1) =
    IsCharBoundary-after_ascii text (length (s.front ++ h.before) + 0) utf8 (omega (arith, length-append s.front h.before)) (omega (arith, last_byte, h.last_small)) in
    let zero' : length s.front + 0 ≡ length s.front = omega arith in
    let piece : take (length text - length others - (length text - length rest)) (drop (length text - length rest) text) ≡ w.0 =
    ap (λ (n : ℕ). take n (drop (length text - length rest) text)) size ∙ ap (λ (n : ℕ). take (length w.0) (drop n text)) (at ∙ zero')
    ∙ ap (λ (x : List ℕ). take (length w.0) (drop (length s.front) x)) s.whole ∙ ap (take (length w.0)) (drop-append_seam s.front rest)
    ∙ ap (take (length w.0)) f.whole ∙ take-append_seam w.0 others in
    let read : token_at (skip s.unread) ≡ Some (kind, take (length text - length others - (length text - length rest)) (drop (length text - length rest) text), others) =
    ap token_at (sym s.here) ∙ w.1 ∙ ap (λ (x : List ℕ). Some (kind, x, others)) (sym piece) in
    let same : length (skip s.unread) ≡ length rest = ap length (sym s.here) in
    let token = next_token text rest others kind in
    record {
      within = omega arith;
      shorter = omega arith;
      begins = subst (IsCharBoundary text) (sym at) begins;
      ends = subst (IsCharBoundary text) (plus ∙ sym at_end) ends;
      next = record {
        unread = others;
        so = one_more text tokens s.unread others (next_token text rest others kind) s.so read (omega arith);
        here = refl;
        front = s.front ++ (w.0 ++ g.gap);
        whole = s.whole ∙ ap (λ (x : List ℕ). s.front ++ x) (f.whole ∙ ap (λ (x : List ℕ). w.0 ++ x) g.whole ∙ sym (append_assoc w.0 g.gap (skip others))) ∙ sym (append_assoc s.front (w.0 ++ g.gap) (skip others));
        before = s.before ++ ((skip_takes s.unread).gap ++ token.text);
        up_to = up_to_next text s.before tokens s.unread token others s.up_to read (λ n. something w.0 some (sym piece ∙ n)) (omega arith);
      };
    }

pub last_state : (text : List ℕ) (tokens : List Token) (rest : List ℕ) → IsState text tokens rest → rest ≡ [] → Spells text tokens
last_state text tokens rest s e = all_read text tokens s.unread s.so (sym s.here ∙ e)

pub stuck_state : (text : List ℕ) (tokens : List Token) (rest : List ℕ) → IsState text tokens rest → (rest ≡ [] → ⊥) → None ≡ ahead (token_at rest) → (all : List Token) → Spells text all → ⊥
stuck_state text tokens rest s some e = none_read text tokens s.unread s.so (λ h. some (s.here ∙ h)) (ap token_at (sym s.here) ∙ ahead_none (token_at rest) e)

-- the text reads well up to the rest
pub next_at : (text : List ℕ) (tokens : List Token) (rest : List ℕ) → IsState text tokens rest → (rest ≡ [] → ⊥) → IsNext text (length text - length rest) rest
next_at text tokens rest s some =
    let total : length text ≡ length s.front + length rest = ap length s.whole ∙ length-append s.front rest in
    let same : length (skip s.unread) ≡ length rest = ap length (sym s.here) in
    subst (IsNext text (length text - length rest)) (sym s.here) (up_to_here text s.before tokens s.unread (length text - length rest) s.up_to (λ h. some (s.here ∙ h)) (omega arith))

pub done_at : (text : List ℕ) (tokens : List Token) (rest : List ℕ) → IsState text tokens rest → begins is_gap_byte rest ≡ false
done_at text tokens rest s = ap (begins is_gap_byte) s.here ∙ skip_is_done s.unread

-- ---- spans

slices_from : (text : List ℕ) (at : ℕ) (front rest : List ℕ) (tokens : List Token) → text ≡ front ++ rest → length front ≡ at → SpellsFrom at rest tokens → AreSlicesFrom at text tokens
slices_from text at front rest [] whole size s = tt
slices_from text at front rest (token ∷ tokens) whole size (gap, others, spelled, separates, place, kind, apart, more) =
    let e : text ≡ (front ++ gap) ++ (token.text ++ others) =
    whole ∙ ap (λ (x : List ℕ). front ++ x) (spelled ∙ append_assoc gap token.text others) ∙ sym (append_assoc front gap (token.text ++ others)) in
    let there : length (front ++ gap) ≡ token.at = omega (arith, length-append front gap) in
    let total : length text ≡ length (front ++ gap) + length (token.text ++ others) = ap length e ∙ length-append (front ++ gap) (token.text ++ others) in
    let piece : take (length token.text) (drop token.at text) ≡ token.text =
    ap (λ (n : ℕ). take (length token.text) (drop n text)) (sym there) ∙ ap (λ (x : List ℕ). take (length token.text) (drop (length (front ++ gap)) x)) e
    ∙ ap (take (length token.text)) (drop-append_seam (front ++ gap) (token.text ++ others)) ∙ take-append_seam token.text others in
    let after : length ((front ++ gap) ++ token.text) ≡ token.at + length token.text = omega (arith, length-append (front ++ gap) token.text) in
    let moved : SpellsFrom (token.at + length token.text) others tokens = subst (λ (n : ℕ). SpellsFrom (n + length token.text) others tokens) (sym place) more in (
      omega arith,
      omega (arith, length-append token.text others),
      piece,
      slices_from text (token.at + length token.text) ((front ++ gap) ++ token.text) others tokens (e ∙ sym (append_assoc (front ++ gap) token.text others)) after moved,
    )

pub spelled_slices : (text : List ℕ) (tokens : List Token) → Spells text tokens → AreSlicesFrom 0 text tokens
spelled_slices text tokens s = slices_from text 0 [] text tokens refl refl s
