-- Cutting one token out of a text.
use Rattle.std.proofs.Common.{◌≡◌, ℕ, ◌+◌, ◌-◌, ◌<◌, ◌≤◌, List, [], ◌∷◌, ◌++◌, length, get_or, take, drop, Some, sym, ap, subst, ◌∙◌, append_assoc, arith}
use Rattle.std.specs.Str.{IsUtf8, IsCharBoundary}
use Rattle.std.proofs.lemmas.Str.{IsCharBoundary-before_ascii, IsCharBoundary-after_ascii}
use Rattle.std.proofs.lemmas.List.{length-append, length-drop, get_or-append-add, take-append-drop, take_all}
use Rattle.std.proofs.Math.Seq.{drop-append_seam, take-append_seam}
use Rattle.fs_lexer.specs.Spelling.{Token, Kind, IsOfKind}
use Rattle.fs_lexer.specs.Reading.{skip, token_at, ahead, AreReadFrom}
use Rattle.fs_lexer.proofs.Pieces.{skip_takes}
use Rattle.fs_lexer.proofs.Fronts.{token_takes}
use Rattle.fs_lexer.proofs.State.{kind_ends, ahead_was, next_token}

-- the token at the front of the last bytes of a text
pub record IsCut (text rest others : List ℕ) (kind : Kind) : Type 0 where
  pub within : length rest ≤ length text
  pub shorter : length others < length rest
  pub begins : IsCharBoundary text (length text - length rest)
  pub ends : IsCharBoundary text (length text - length others)
  pub read : token_at rest ≡ Some (kind, (next_token text rest others kind).text, others)
  pub behind : others ≡ drop (length text - length others) text

pub cut_at : (text front rest others : List ℕ) (kind : Kind) → IsUtf8 text → text ≡ front ++ rest → Some (kind, others) ≡ ahead (token_at rest) → IsCut text rest others kind
cut_at text front rest others kind utf8 whole e =
    let w = ahead_was (token_at rest) kind others e in
    let f = token_takes rest (kind, w.0, others) w.1 in
    let h = kind_ends kind w.0 f.of_kind in
    let total : length text ≡ length front + length rest = ap length whole ∙ length-append front rest in
    let parts : length rest ≡ length w.0 + length others = ap length f.whole ∙ length-append w.0 others in
    let some : 0 < length w.0 = omega (arith, ap length h.begins) in
    let many : length w.0 ≡ length h.before + 1 = ap length h.ends ∙ length-append h.before (h.last ∷ []) in
    let at : length text - length rest ≡ length front + 0 = omega arith in
    let at_end : length text - length others ≡ length (front ++ h.before) + 1 = omega (arith, length-append front h.before) in
    let at_word : length text - length others ≡ length (front ++ w.0) = omega (arith, length-append front w.0) in
    let size : length text - length others - (length text - length rest) ≡ length w.0 = omega arith in
    let tail : text ≡ (front ++ h.before) ++ h.last ∷ others =
    whole ∙ ap (λ (x : List ℕ). front ++ x) (f.whole ∙ ap (λ (x : List ℕ). x ++ others) h.ends ∙ append_assoc h.before (h.last ∷ []) others)
    ∙ sym (append_assoc front h.before (h.last ∷ others)) in
    let words : text ≡ (front ++ w.0) ++ others = whole ∙ ap (λ (x : List ℕ). front ++ x) f.whole ∙ sym (append_assoc front w.0 others) in
    let first_byte : get_or text (length front + 0) 0 ≡ h.first =
    ap (λ (x : List ℕ). get_or x (length front + 0) 0) whole ∙ get_or-append-add front rest 0 0 ∙ ap (λ (x : List ℕ). get_or x 0 0) (f.whole ∙ ap (λ (x : List ℕ). x ++ others) h.begins) in
    let last_byte : get_or text (length (front ++ h.before) + 0) 0 ≡ h.last =
    ap (λ (x : List ℕ). get_or x (length (front ++ h.before) + 0) 0) tail ∙ get_or-append-add (front ++ h.before) (h.last ∷ others) 0 0 in
    let plus : length (front ++ h.before) + 0 + 1 ≡ length (front ++ h.before) + 1 = omega arith in
    let begins : IsCharBoundary text (length front + 0) = IsCharBoundary-before_ascii text (length front + 0) (omega arith) (omega (arith, first_byte, h.first_small)) in
    let ends : IsCharBoundary text (length (front ++ h.before) + 0 + 1) =
    IsCharBoundary-after_ascii text (length (front ++ h.before) + 0) utf8 (omega (arith, length-append front h.before)) (omega (arith, last_byte, h.last_small)) in
    let zero' : length front + 0 ≡ length front = omega arith in
    let piece : take (length text - length others - (length text - length rest)) (drop (length text - length rest) text) ≡ w.0 =
    ap (λ (n : ℕ). take n (drop (length text - length rest) text)) size ∙ ap (λ (n : ℕ). take (length w.0) (drop n text)) (at ∙ zero')
    ∙ ap (λ (x : List ℕ). take (length w.0) (drop (length front) x)) whole ∙ ap (take (length w.0)) (drop-append_seam front rest)
    ∙ ap (take (length w.0)) f.whole ∙ take-append_seam w.0 others in
    record {
      within = omega arith;
      shorter = omega arith;
      begins = subst (IsCharBoundary text) (sym at) begins;
      ends = subst (IsCharBoundary text) (plus ∙ sym at_end) ends;
      read = w.1 ∙ ap (λ (x : List ℕ). Some (kind, x, others)) (sym piece);
      behind = sym (ap (λ (n : ℕ). drop n text) at_word ∙ ap (drop (length (front ++ w.0))) words ∙ drop-append_seam (front ++ w.0) others);
    }

-- the bytes from a place on, as the code has them
pub from_place : (text bytes : List ℕ) (from : ℕ) → bytes ≡ text → from ≤ length text → take (length bytes - from) (drop from bytes) ≡ drop from text
from_place text bytes from same l =
    ap (λ (b : List ℕ). take (length b - from) (drop from b)) same ∙ take_all (length text - from) (drop from text) (omega (arith, length-drop from text))

pub cut_behind : (text : List ℕ) (from : ℕ) (rest others : List ℕ) (kind : Kind) → IsUtf8 text → rest ≡ skip (drop from text) → Some (kind, others) ≡ ahead (token_at rest) → IsCut text rest others kind
cut_behind text from rest others kind utf8 here e =
    let g = skip_takes (drop from text) in
    let whole : text ≡ (take from text ++ g.gap) ++ rest =
    sym (take-append-drop from text) ∙ ap (λ (x : List ℕ). take from text ++ x) (g.whole ∙ ap (λ (x : List ℕ). g.gap ++ x) (sym here)) ∙ sym (append_assoc (take from text) g.gap rest) in
    cut_at text (take from text ++ g.gap) rest others kind utf8 whole e

-- the token and those behind it
pub reads_first : (text : List ℕ) (from : ℕ) (rest others : List ℕ) (kind : Kind) → rest ≡ skip (drop from text) → IsCut text rest others kind
    → (more : List Token) → AreReadFrom (length text) (drop (length text - length others) text) more
    → AreReadFrom (length text) (drop from text) (next_token text rest others kind ∷ more)
reads_first text from rest others kind here cut more h =
    let l = cut.within in (
      others,
      ap token_at (sym here) ∙ cut.read,
      (let same : length (skip (drop from text)) ≡ length rest = ap length (sym here) in omega arith),
      subst (λ (bytes : List ℕ). AreReadFrom (length text) bytes more) (sym cut.behind) h,
    )

-- what is cut out is a token of its kind
pub cut_of_kind : (text rest others : List ℕ) (kind : Kind) → IsCut text rest others kind → IsOfKind kind (next_token text rest others kind).text
cut_of_kind text rest others kind cut = (token_takes rest (kind, (next_token text rest others kind).text, others) cut.read).of_kind
