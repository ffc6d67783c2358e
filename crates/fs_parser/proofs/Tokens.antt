-- What stands between < and > in a token of a UTF-8 text is UTF-8.
use Rattle.std.proofs.Common.{◌≡◌, ℕ, ◌+◌, ◌<◌, List, [], ◌∷◌, ◌++◌, length, get_or, drop, sym, ap, ◌∙◌, subst, append_assoc, arith}
use Rattle.std.specs.Prelude.{codes}
use Rattle.std.specs.Str.{IsUtf8, IsCharBoundary}
use Rattle.std.proofs.lemmas.List.{get_or-append-add, length-append}
use Rattle.std.proofs.lemmas.Str.{IsCharBoundary-after_ascii, IsCharBoundary-before_ascii, IsUtf8-drop, IsUtf8-take}
use Rattle.std.proofs.Math.Seq.{drop-append_seam, take-append_seam}
use Rattle.fs_lexer.specs.Spelling.{Token, IsOfKind, SpellsFrom}
use Rattle.fs_parser.specs.Name.{IsBracketed}

-- ---- cuts at a byte that is a character

byte_is : (front : List ℕ) (b : ℕ) (rest : List ℕ) → get_or (front ++ b ∷ rest) (length front) 0 ≡ b
byte_is front b rest =
    let zero' : length front ≡ length front + 0 = omega arith in
    ap (λ (n : ℕ). get_or (front ++ b ∷ rest) n 0) zero' ∙ get_or-append-add front (b ∷ rest) 0 0

byte_within : (front : List ℕ) (b : ℕ) (rest : List ℕ) → length front < length (front ++ b ∷ rest)
byte_within front b rest = omega (arith, length-append front (b ∷ rest))

cut_before : (front : List ℕ) (b : ℕ) (rest : List ℕ) → b < 128 → IsUtf8 (front ++ b ∷ rest) → IsUtf8 front
cut_before front b rest small u =
    let text = front ++ b ∷ rest in
    let at : IsCharBoundary text (length front) = IsCharBoundary-before_ascii text (length front) (byte_within front b rest) (omega (arith, byte_is front b rest, small)) in
    subst IsUtf8 (take-append_seam front (b ∷ rest)) (IsUtf8-take text (length front) u at)

cut_behind : (front : List ℕ) (b : ℕ) (rest : List ℕ) → b < 128 → IsUtf8 (front ++ b ∷ rest) → IsUtf8 rest
cut_behind front b rest small u =
    let text = front ++ b ∷ rest in
    let at : IsCharBoundary text (length front + 1) = IsCharBoundary-after_ascii text (length front) u (byte_within front b rest) (omega (arith, byte_is front b rest, small)) in
    let place : length front + 1 ≡ length (front ++ b ∷ []) = omega (arith, length-append front (b ∷ [])) in
    let left : drop (length front + 1) text ≡ rest =
    ap (λ (n : ℕ). drop n text) place ∙ ap (drop (length (front ++ b ∷ []))) (sym (append_assoc front (b ∷ []) rest)) ∙ drop-append_seam (front ++ b ∷ []) rest in
    subst IsUtf8 left (IsUtf8-drop text (length front + 1) u at)

-- ---- tokens

-- the token is of its kind, and what it has between < and > is UTF-8
pub record IsSpelled (token : Token) : Type 0 where
  pub of_kind : IsOfKind token.kind token.text
  pub bracketed : (iri : List ℕ) → IsBracketed iri token.text → IsUtf8 iri

-- each of them is so
abbrev pub AreSpelled : List Token → Type 0
AreSpelled [] = Unit {0}
AreSpelled (t ∷ ts) = IsSpelled t × AreSpelled ts

in_brackets : (front text iri rest : List ℕ) → IsUtf8 (front ++ (text ++ rest)) → IsBracketed iri text → IsUtf8 iri
in_brackets front text iri rest u e =
    let opened : text ++ rest ≡ 60 ∷ (iri ++ 62 ∷ rest) = ap (λ (x : List ℕ). x ++ rest) e ∙ ap (λ (x : List ℕ). 60 ∷ x) (append_assoc iri (codes ">") rest) in
    cut_before iri 62 rest (omega arith) (cut_behind front 60 (iri ++ 62 ∷ rest) (omega arith) (subst (λ (x : List ℕ). IsUtf8 (front ++ x)) opened u))

-- those of the last bytes of a UTF-8 text
pub tokens_spelled : (at : ℕ) (front text : List ℕ) (tokens : List Token) → IsUtf8 (front ++ text) → SpellsFrom at text tokens → AreSpelled tokens
tokens_spelled at front text [] u h = tt
tokens_spelled at front text (t ∷ ts) u h =
    let whole : front ++ text ≡ (front ++ h.0) ++ (t.text ++ h.1) = ap (λ (x : List ℕ). front ++ x) (h.2 ∙ append_assoc h.0 t.text h.1) ∙ sym (append_assoc front h.0 (t.text ++ h.1)) in
    let here : IsUtf8 ((front ++ h.0) ++ (t.text ++ h.1)) = subst IsUtf8 whole u in
    let later : IsUtf8 (((front ++ h.0) ++ t.text) ++ h.1) = subst IsUtf8 (sym (append_assoc (front ++ h.0) t.text h.1)) here in (
      record { of_kind = h.5; bracketed = λ iri e. in_brackets (front ++ h.0) t.text iri h.1 here e },
      tokens_spelled (at + length h.0 + length t.text) ((front ++ h.0) ++ t.text) h.1 ts later h.7,
    )

-- of two lists
pub first_spelled : (ts us : List Token) → AreSpelled (ts ++ us) → AreSpelled ts
first_spelled [] us h = tt
first_spelled (t ∷ ts) us h = (h.0, first_spelled ts us h.1)

pub second_spelled : (ts us : List Token) → AreSpelled (ts ++ us) → AreSpelled us
second_spelled [] us h = h
second_spelled (t ∷ ts) us h = second_spelled ts us h.1
