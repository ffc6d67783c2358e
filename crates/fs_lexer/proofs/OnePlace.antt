-- A text has one place at which reading fails, and one fault there.
use Rattle.std.proofs.Common.{◌≡◌, ℕ, ◌+◌, ◌≤◌, Bool, true, false, List, [], ◌∷◌, ◌++◌, length, take, drop, Option, Some, None, refl, sym, ap, subst, ◌∙◌, append_assoc, codes, arith}
use Rattle.std.proofs.lemmas.Bool.{and_parts, or_left, or_right, false≢true, false_from_ne_true, eqb-true}
use Rattle.std.proofs.lemmas.Bool.Decides.{nat_tests}
use Rattle.std.proofs.lemmas.Option.{none-some, same_Some}
use Rattle.std.proofs.lemmas.List.{length-append, length-drop, take-append-drop, append-nil}
use Rattle.std.proofs.Math.Seq.{take-append_seam}
use Rattle.lemmas.proofs.Choices.{passed}
use Rattle.fs_lexer.specs.Spelling.{Token, Kind, Opening, FullIri, Quoted, IsOfKind, is_white, is_word_byte, is_iri_byte, begins, begins_with_word, ends_with_word, SpellsFrom, Spells}
use Rattle.fs_lexer.specs.Reading.{Found, skip, span, string_at, quoted, iri_ends, word_kind, of_kind, word_at, token_at, AreReadFrom}
use Rattle.fs_lexer.specs.Faults.{IsRefusal, is_gap_byte, is_quote, is_angle, is_other, BeginsWith, BeginsToken, IsNoWord, IsReached, IsPlaced, IsFault}
use Rattle.fs_lexer.specs.declared.token.LexFault.{LexFault}
use Rattle.fs_lexer.specs.declared.token.LexFault.TheVariants.{BadByte, OpenString, OpenIri, WordsTouch, Memory}
use Rattle.fs_lexer.proofs.Pieces.{skip_again, span_again, Stands}
use Rattle.fs_lexer.proofs.Words.{word_takes}
use Rattle.fs_lexer.proofs.Fronts.{begins_same, token_again, token_takes, token_stands}
use Rattle.fs_lexer.proofs.Whole.{spelling_is_reading}
use Rattle.fs_lexer.proofs.Places.{ends_of}

-- ---- reading up to some bytes

-- these tokens are read from the bytes, and then the next is to begin where the others do
abbrev pub Reads : List ℕ → List Token → List ℕ → Type 0
Reads bytes [] others = skip bytes ≡ others
Reads bytes (token ∷ tokens) others = (rest : List ℕ) × (token_at (skip bytes) ≡ Some (token.kind, token.text, rest)) × Reads rest tokens others

-- reading stops at one place
pub same_stop : (bytes : List ℕ) (xs ys : List Token) (l m : List ℕ) → Reads bytes xs l → Reads bytes ys m → token_at l ≡ None → token_at m ≡ None → l ≡ m
same_stop bytes [] [] l m h k e f = sym h ∙ k
same_stop bytes [] (y ∷ ys) l m h (r, t, k) e f = absurd (none-some _ (sym e ∙ ap token_at (sym h) ∙ t))
same_stop bytes (x ∷ xs) [] l m (r, t, h) k e f = absurd (none-some _ (sym f ∙ ap token_at (sym k) ∙ t))
same_stop bytes (x ∷ xs) (y ∷ ys) l m (r, t, h) (s, u, k) e f =
    let mine : Found = (x.kind, x.text, r) in
    let theirs : Found = (y.kind, y.text, s) in
    let same : mine ≡ theirs = same_Some mine theirs (sym t ∙ u) in
    same_stop s xs ys l m (subst (λ (b : List ℕ). Reads b xs l) (ap (λ (p : Found). p.2) same) h) k e f

pub reads_all : (n : ℕ) (bytes : List ℕ) (tokens : List Token) → AreReadFrom n bytes tokens → Reads bytes tokens []
reads_all n bytes [] h = h
reads_all n bytes (token ∷ tokens) (rest, t, place, others) = (rest, t, reads_all n rest tokens others)

split : (xs ys us vs : List ℕ) → xs ++ ys ≡ us ++ vs → length us ≤ length xs → (mid : List ℕ) × (xs ≡ us ++ mid) × (vs ≡ mid ++ ys)
split xs ys [] vs e l = (xs, refl, sym e)
split [] ys (u ∷ us) vs e l = absurd (omega arith)
split (x ∷ xs) ys (u ∷ us) vs e l =
    let r = split xs ys us vs (cc) (omega arith) in
    let head : x ≡ u = cc in
    (r.0, ap (λ (b : ℕ). b ∷ xs) head ∙ ap (λ (s : List ℕ). u ∷ s) r.1, r.2)

ends_behind : (at : ℕ) (bytes : List ℕ) (tokens : List Token) (sign : Token) → SpellsFrom at bytes (tokens ++ sign ∷ []) → at ≤ sign.at
ends_behind at bytes [] sign (gap, rest, spelled, separates, place, kind, apart, last) = omega arith
ends_behind at bytes (t ∷ tokens) sign (gap, rest, spelled, separates, place, kind, apart, others) =
    let h = ends_behind (at + length gap + length t.text) rest tokens sign others in
    omega arith

-- what is read before a sign is read before other bytes, if no word is cut
pub reads_before : (at : ℕ) (front rest : List ℕ) (tokens : List Token) (sign : Token) → sign.at ≡ at + length front → Stands rest → (ends_with_word front ≡ true → begins_with_word rest ≡ false)
    → SpellsFrom at (front ++ codes "(") (tokens ++ sign ∷ []) → Reads (front ++ rest) tokens rest
reads_before at front rest [] sign there stands cut (gap, others, spelled, separates, place, kind, apart, last) =
    let size : length gap ≡ length front = omega arith in
    let same : gap ≡ front =
    sym (take-append_seam gap (sign.text ++ others)) ∙ ap (take (length gap)) (sym (append_assoc gap sign.text others) ∙ sym spelled)
    ∙ ap (λ (n : ℕ). take n (front ++ codes "(")) size ∙ take-append_seam front (codes "(") in
    ap (λ (s : List ℕ). skip (s ++ rest)) (sym same) ∙ skip_again gap rest separates stands
reads_before at front rest (t ∷ tokens) sign there stands cut (gap, others, spelled, separates, place, kind, apart, more) =
    let piece = gap ++ t.text in
    let within : at + length gap + length t.text ≤ sign.at = ends_behind (at + length gap + length t.text) others tokens sign more in
    let r = split front (codes "(") piece others spelled (omega (arith, length-append gap t.text)) in
    let mid = r.0 in
    let whole : front ++ rest ≡ gap ++ (t.text ++ (mid ++ rest)) =
    ap (λ (s : List ℕ). s ++ rest) r.1 ∙ append_assoc piece mid rest ∙ append_assoc gap t.text (mid ++ rest) in
    let token = token_again t.kind t.text (mid ++ rest) kind (behind mid r.1 r.2) in
    let here : skip (front ++ rest) ≡ t.text ++ (mid ++ rest) = ap skip whole ∙ skip_again gap (t.text ++ (mid ++ rest)) separates (token_stands (t.text ++ (mid ++ rest)) _ token) in (
      mid ++ rest,
      ap token_at here ∙ token,
      reads_before (at + length gap + length t.text) mid rest tokens sign (omega (arith, ap length r.1, length-append piece mid, length-append gap t.text)) stands (cut_mid mid r.1)
          (subst (λ (s : List ℕ). SpellsFrom (at + length gap + length t.text) s (tokens ++ sign ∷ [])) r.2 more),
    )
  where
    some : ends_with_word t.text ≡ true → t.text ≡ [] → ⊥
    some h e = false≢true (sym (ap ends_with_word e) ∙ h)

    behind : (mid : List ℕ) → front ≡ (gap ++ t.text) ++ mid → others ≡ mid ++ codes "(" → ends_with_word t.text ≡ true → begins_with_word (mid ++ rest) ≡ false
    behind [] e f h = cut (ap ends_with_word (e ∙ append-nil (gap ++ t.text)) ∙ ends_of gap t.text (some h) ∙ h)
    behind (m ∷ mid) e f h = sym (ap begins_with_word f) ∙ apart h

    cut_mid : (mid : List ℕ) → front ≡ (gap ++ t.text) ++ mid → ends_with_word mid ≡ true → begins_with_word rest ≡ false
    cut_mid [] e h = absurd (false≢true h)
    cut_mid (m ∷ mid) e h = cut (ap ends_with_word e ∙ ends_of (gap ++ t.text) (m ∷ mid) (λ n. absurd (cc)) ∙ h)

-- ---- no token begins at a fault

none_of : (bytes : List ℕ) → ((found : Found) → token_at bytes ≡ Some found → ⊥) → token_at bytes ≡ None
none_of bytes h = go (token_at bytes) refl
  where
    go : (o : Option Found) → token_at bytes ≡ o → o ≡ None
    go None e = refl
    go (Some found) e = absurd (h found e)

none_other : (bytes : List ℕ) → (BeginsToken bytes → ⊥) → token_at bytes ≡ None
none_other bytes h = none_of bytes (λ found t. let f = token_takes bytes found t in h (found.0, found.1, found.2, f.whole, f.of_kind, f.apart))

-- no token of the one kind that may begin here
none_with : (kind : Kind) (bytes : List ℕ) → ((found : Found) → token_at bytes ≡ Some found → found.0 ≡ kind) → (BeginsWith kind bytes → ⊥) → token_at bytes ≡ None
none_with kind bytes only h =
    none_of bytes (λ found t. let f = token_takes bytes found t in h (found.1, found.2, f.whole, subst (λ (k : Kind). IsOfKind k found.1) (only found t) f.of_kind))

quote_kind : (bs : List ℕ) (found : Found) → token_at (34 ∷ bs) ≡ Some found → found.0 ≡ Quoted
unfolding token_at
quote_kind bs found t = go (string_at bs) t
  where
    go : (o : Option (List ℕ × List ℕ)) → quoted o ≡ Some found → found.0 ≡ Quoted
    go None e = absurd (none-some found e)
    go (Some p) e = sym (ap (λ (f : Found). f.0) (same_Some (Quoted, 34 ∷ (p.0 ++ 34 ∷ []), p.1) found e))

angle_kind : (bs : List ℕ) (found : Found) → token_at (60 ∷ bs) ≡ Some found → found.0 ≡ FullIri
unfolding token_at
angle_kind bs found t = go (span is_iri_byte bs).0 (span is_iri_byte bs).1 t
  where
    go : (iri rest : List ℕ) → iri_ends iri rest ≡ Some found → found.0 ≡ FullIri
    go iri [] e = absurd (none-some found e)
    go iri (b ∷ rest) e = sym (ap (λ (f : Found). f.0) (same_Some (FullIri, 60 ∷ (iri ++ 62 ∷ []), rest) found (passed _ _ found e).1))

none_quote : (bytes : List ℕ) → begins is_quote bytes ≡ true → (BeginsWith Quoted bytes → ⊥) → token_at bytes ≡ None
none_quote [] q h = absurd (false≢true q)
none_quote (b ∷ bs) q h = none_with Quoted (b ∷ bs) (λ found t. quote_kind bs found (ap (λ (x : ℕ). token_at (x ∷ bs)) (sym (eqb-true b 34 q)) ∙ t)) h

none_angle : (bytes : List ℕ) → begins is_angle bytes ≡ true → (BeginsWith FullIri bytes → ⊥) → token_at bytes ≡ None
none_angle [] q h = absurd (false≢true q)
none_angle (b ∷ bs) q h = none_with FullIri (b ∷ bs) (λ found t. angle_kind bs found (ap (λ (x : ℕ). token_at (x ∷ bs)) (sym (eqb-true b 60 q)) ∙ t)) h

word_is_read : (b : ℕ) (bs : List ℕ) → is_word_byte b ≡ true → token_at (b ∷ bs) ≡ word_at (span is_word_byte (b ∷ bs))
unfolding token_at
word_is_read b bs h = rw h refl

none_word : (before bytes : List ℕ) → IsNoWord before bytes → token_at bytes ≡ None
none_word before bytes ([], rest, e, r, apart, ends, none) = absurd (false≢true r)
none_word before bytes (b ∷ run, rest, e, r, apart, ends, none) =
    let s : span is_word_byte ((b ∷ run) ++ rest) ≡ (b ∷ run, rest) = span_again is_word_byte (b ∷ run) rest r (begins_same rest ∙ ends) in
    ap token_at e ∙ word_is_read b (run ++ rest) (and_parts (is_word_byte b) _ r).0 ∙ ap word_at s ∙ go (word_kind (b ∷ run)) refl
  where
    go : (o : Option Kind) → word_kind (b ∷ run) ≡ o → of_kind (b ∷ run, rest) o ≡ None
    go None w = refl
    go (Some kind) w = absurd (none kind (word_takes kind (b ∷ run) w).1)

-- ---- where reading stops

pub record IsStuck (text : List ℕ) (at : ℕ) (test : ℕ → Bool) : Type 0 where
  pub tokens : List Token
  pub reads : Reads text tokens (drop at text)
  pub none : token_at (drop at text) ≡ None
  pub first : begins test (drop at text) ≡ true

-- bytes that pass the one test do not pass the other
abbrev Excludes : (ℕ → Bool) → (ℕ → Bool) → Type 0
Excludes test other = (b : ℕ) → test b ≡ true → other b ≡ false

excluded : (test other : ℕ → Bool) → Excludes test other → (bytes : List ℕ) → begins test bytes ≡ true → begins other bytes ≡ false
excluded test other h [] f = absurd (false≢true f)
excluded test other h (b ∷ bs) f = h b f

stands_of : (bytes : List ℕ) → begins is_gap_byte bytes ≡ false → Stands bytes
stands_of [] h = record { comment = refl; white = refl }
stands_of (b ∷ bs) h = record {
  comment = false_from_ne_true _ (λ e. false≢true (sym h ∙ or_right (is_white b) _ e));
  white = false_from_ne_true _ (λ e. false≢true (sym h ∙ or_left (is_white b) _ e));
}

some_bytes : (test : ℕ → Bool) (bytes : List ℕ) → begins test bytes ≡ true → 1 ≤ length bytes
some_bytes test [] f = absurd (false≢true f)
some_bytes test (b ∷ bs) f = omega arith

place_within : (text : List ℕ) (at : ℕ) (test : ℕ → Bool) → begins test (drop at text) ≡ true → length (take at text) ≡ at
place_within text at test f =
    omega (arith, some_bytes test (drop at text) f, length-drop at text, ap length (take-append-drop at text), length-append (take at text) (drop at text))

stuck_at : (text : List ℕ) (at : ℕ) (test : ℕ → Bool) → Excludes test is_gap_byte → IsReached text at → (begins_with_word (drop at text) ≡ true → ends_with_word (take at text) ≡ false)
    → begins test (drop at text) ≡ true → token_at (drop at text) ≡ None → IsStuck text at test
stuck_at text at test gap reached apart first none =
    let there : at ≡ 0 + length (take at text) = omega (arith, place_within text at test first) in
    let reads = reads_before 0 (take at text) (drop at text) reached.tokens (record { kind = Opening; text = codes "("; at = at }) there (stands_of (drop at text) (excluded test is_gap_byte gap (drop at text) first))
    (λ h. false_from_ne_true _ (λ w. false≢true (sym (apart w) ∙ h))) reached.next in
    record {
      tokens = reached.tokens;
      reads = subst (λ (s : List ℕ). Reads s reached.tokens (drop at text)) (take-append-drop at text) reads;
      none = none;
      first = first;
    }

-- where no word character stands first, no word is cut
uncut : (text : List ℕ) (at : ℕ) (test : ℕ → Bool) → Excludes test is_word_byte → begins test (drop at text) ≡ true → begins_with_word (drop at text) ≡ true → ends_with_word (take at text) ≡ false
uncut text at test word first h = absurd (false≢true (sym (excluded test is_word_byte word (drop at text) first) ∙ begins_same (drop at text) ∙ h))

abbrev place_of : LexFault → ℕ
place_of (BadByte at) = at
place_of (OpenString at) = at
place_of (OpenIri at) = at
place_of (WordsTouch at) = at
place_of Memory = 0

abbrev first_of : LexFault → ℕ → Bool
first_of (BadByte at) = is_other
first_of (OpenString at) = is_quote
first_of (OpenIri at) = is_angle
first_of (WordsTouch at) = is_word_byte
first_of Memory = λ _. false

quote_gap : Excludes is_quote is_gap_byte
quote_gap b h = grind (arith, nat_tests)

angle_gap : Excludes is_angle is_gap_byte
angle_gap b h = grind (arith, nat_tests)

word_gap : Excludes is_word_byte is_gap_byte
word_gap b h = grind (arith, nat_tests)

other_gap : Excludes is_other is_gap_byte
other_gap b h = grind (arith, nat_tests)

quote_word : Excludes is_quote is_word_byte
quote_word b h = grind (arith, nat_tests)

angle_word : Excludes is_angle is_word_byte
angle_word b h = grind (arith, nat_tests)

other_word : Excludes is_other is_word_byte
other_word b h = grind (arith, nat_tests)

other_quote : Excludes is_other is_quote
other_quote b h = grind (arith, nat_tests)

other_angle : Excludes is_other is_angle
other_angle b h = grind (arith, nat_tests)

quote_angle : Excludes is_quote is_angle
quote_angle b h = grind (arith, nat_tests)

stuck : (text : List ℕ) (e : LexFault) → IsRefusal e → IsPlaced text e → IsStuck text (place_of e) (first_of e)
stuck text (BadByte at) r (reached, (first, none)) = stuck_at text at is_other other_gap reached (uncut text at is_other other_word first) first (none_other (drop at text) none)
stuck text (OpenString at) r (reached, (first, none)) = stuck_at text at is_quote quote_gap reached (uncut text at is_quote quote_word first) first (none_quote (drop at text) first none)
stuck text (OpenIri at) r (reached, (first, none)) = stuck_at text at is_angle angle_gap reached (uncut text at is_angle angle_word first) first (none_angle (drop at text) first none)
stuck text (WordsTouch at) r (reached, word) = stuck_at text at is_word_byte word_gap reached (λ _. word.4) (word_first (drop at text) word) (none_word (take at text) (drop at text) word)
  where
    word_first : (bytes : List ℕ) → IsNoWord (take at text) bytes → begins is_word_byte bytes ≡ true
    word_first bytes ([], rest, e, run, before, ends, none) = absurd (false≢true run)
    word_first bytes (b ∷ bs, rest, e, run, before, ends, none) = ap (begins is_word_byte) e ∙ (and_parts (is_word_byte b) _ run).0
stuck text Memory r p = absurd r

-- ---- one fault

same_bytes : (text : List ℕ) (a b : ℕ) (s t : ℕ → Bool) → IsStuck text a s → IsStuck text b t → drop a text ≡ drop b text
same_bytes text a b s t h k = same_stop text h.tokens k.tokens (drop a text) (drop b text) h.reads k.reads h.none k.none

same_place : (text : List ℕ) (a b : ℕ) (s t : ℕ → Bool) → IsStuck text a s → IsStuck text b t → a ≡ b
same_place text a b s t h k =
    omega (arith, ap length (same_bytes text a b s t h k), length-drop a text, length-drop b text, some_bytes s (drop a text) h.first, some_bytes t (drop b text) k.first)

clash : (text : List ℕ) (a b : ℕ) (s t : ℕ → Bool) → Excludes s t → IsStuck text a s → IsStuck text b t → ⊥
clash text a b s t n h k = false≢true (sym (excluded s t n (drop a text) h.first) ∙ ap (begins t) (same_bytes text a b s t h k) ∙ k.first)

pub one_fault : (text : List ℕ) (e f : LexFault) → IsFault text e → IsFault text f → e ≡ f
one_fault text e f (r, h) (q, k) = go e f r q (stuck text e r h) (stuck text f q k)
  where
    go : (e f : LexFault) → IsRefusal e → IsRefusal f → IsStuck text (place_of e) (first_of e) → IsStuck text (place_of f) (first_of f) → e ≡ f
    go (BadByte a) (BadByte b) r q h k = ap BadByte (same_place text a b is_other is_other h k)
    go (BadByte a) (OpenString b) r q h k = absurd (clash text a b is_other is_quote other_quote h k)
    go (BadByte a) (OpenIri b) r q h k = absurd (clash text a b is_other is_angle other_angle h k)
    go (BadByte a) (WordsTouch b) r q h k = absurd (clash text a b is_other is_word_byte other_word h k)
    go (OpenString a) (BadByte b) r q h k = absurd (clash text b a is_other is_quote other_quote k h)
    go (OpenString a) (OpenString b) r q h k = ap OpenString (same_place text a b is_quote is_quote h k)
    go (OpenString a) (OpenIri b) r q h k = absurd (clash text a b is_quote is_angle quote_angle h k)
    go (OpenString a) (WordsTouch b) r q h k = absurd (clash text a b is_quote is_word_byte quote_word h k)
    go (OpenIri a) (BadByte b) r q h k = absurd (clash text b a is_other is_angle other_angle k h)
    go (OpenIri a) (OpenString b) r q h k = absurd (clash text b a is_quote is_angle quote_angle k h)
    go (OpenIri a) (OpenIri b) r q h k = ap OpenIri (same_place text a b is_angle is_angle h k)
    go (OpenIri a) (WordsTouch b) r q h k = absurd (clash text a b is_angle is_word_byte angle_word h k)
    go (WordsTouch a) (BadByte b) r q h k = absurd (clash text b a is_other is_word_byte other_word k h)
    go (WordsTouch a) (OpenString b) r q h k = absurd (clash text b a is_quote is_word_byte quote_word k h)
    go (WordsTouch a) (OpenIri b) r q h k = absurd (clash text b a is_angle is_word_byte angle_word k h)
    go (WordsTouch a) (WordsTouch b) r q h k = ap WordsTouch (same_place text a b is_word_byte is_word_byte h k)
    go Memory f r q h k = absurd r
    go e Memory r q h k = absurd q

pub no_tokens : (text : List ℕ) (e : LexFault) (all : List Token) → IsFault text e → Spells text all → ⊥
unfolding token_at
no_tokens text e all (r, h) spelled =
    let s = stuck text e r h in
    let none = same_stop text s.tokens all (drop (place_of e) text) [] s.reads (reads_all (length text) text all ((spelling_is_reading text all).0 spelled)) s.none refl in
    false≢true (sym (ap (begins (first_of e)) none) ∙ s.first)
