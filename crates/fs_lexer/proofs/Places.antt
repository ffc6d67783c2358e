-- The places of faults: what stands before them, and what does not begin there.
use Rattle.std.proofs.Common.{◌≡◌, ℕ, ◌+◌, true, false, cond, List, [], ◌∷◌, ◌++◌, length, take, drop, Some, None, refl, sym, ap, subst, ◌∙◌, inl, inr, append_assoc, codes, arith}
use Rattle.std.specs.Prelude.{◌==◌}
use Rattle.std.specs.List.{list_all}
use Rattle.std.proofs.lemmas.Bool.{and_parts, false≢true, true≢false, false_from_ne_true}
use Rattle.std.proofs.lemmas.Bool.Decides.{nat_tests}
use Rattle.std.proofs.lemmas.Option.{none-some}
use Rattle.std.proofs.lemmas.List.{length-append, append-nil}
use Rattle.std.proofs.Math.Seq.{drop-append_seam, take-append_seam}
use Rattle.lemmas.proofs.Choices.{chosen}
use Rattle.fs_lexer.specs.Spelling.{Token, Opening, FullIri, Quoted, is_white, is_line_end, is_word_byte, is_run, is_separator, is_comment, begins, begins_with_word, ends_with_word, SpellsFrom, Spells}
use Rattle.fs_lexer.specs.Reading.{skip, skip_comment, span, token_at}
use Rattle.fs_lexer.specs.Faults.{is_gap_byte, is_quote, is_angle, is_other, BeginsWith, BeginsToken, IsBadByte, IsOpenString, IsOpenIri, IsNoWord, IsPlaced, IsNext}
use Rattle.fs_lexer.specs.declared.token.LexFault.TheVariants.{BadByte, OpenString, OpenIri, WordsTouch}
use Rattle.fs_lexer.proofs.Pieces.{skip_takes, span_takes}
use Rattle.fs_lexer.proofs.Fronts.{begins_same, last_is, token_again, token_takes}
use Rattle.fs_lexer.proofs.Whole.{not_empty}

-- ---- what does not begin where no token is read

pub no_token_begins : (bytes : List ℕ) → token_at bytes ≡ None → BeginsToken bytes → ⊥
no_token_begins bytes none (kind, text, rest, e, k, apart) = none-some _ (sym none ∙ ap token_at e ∙ token_again kind text rest k apart)

pub no_string_begins : (bytes : List ℕ) → token_at bytes ≡ None → BeginsWith Quoted bytes → ⊥
no_string_begins bytes none (text, rest, e, (body, t, h)) =
    no_token_begins bytes none (Quoted, text, rest, e, (body, t, h), λ w. absurd (false≢true (sym (last_is (34 ∷ body) 34) ∙ ap ends_with_word (sym t) ∙ w)))

pub no_iri_begins : (bytes : List ℕ) → token_at bytes ≡ None → BeginsWith FullIri bytes → ⊥
no_iri_begins bytes none (text, rest, e, (iri, t, h)) =
    no_token_begins bytes none (FullIri, text, rest, e, (iri, t, h), λ w. absurd (false≢true (sym (last_is (60 ∷ iri) 62) ∙ ap ends_with_word (sym t) ∙ w)))

-- the longest run of word characters is of no kind
pub no_word_begins : (before bytes : List ℕ) → token_at bytes ≡ None → begins is_word_byte bytes ≡ true → ends_with_word before ≡ false → IsNoWord before bytes
no_word_begins before bytes none word apart =
    let s = span_takes is_word_byte bytes in
    let run = (span is_word_byte bytes).0 in
    let rest = (span is_word_byte bytes).1 in
    let ends : begins_with_word rest ≡ false = sym (begins_same rest) ∙ s.ends in
    (run, rest, s.whole, some run rest s.whole s.each s.ends, apart, ends, λ kind k. no_token_begins bytes none (kind, run, rest, s.whole, k, λ _. ends))
  where
    some : (run rest : List ℕ) → bytes ≡ run ++ rest → list_all is_word_byte run ≡ true → begins is_word_byte rest ≡ false → is_run is_word_byte run ≡ true
    some [] rest e all ends = absurd (true≢false (sym word ∙ ap (begins is_word_byte) e ∙ ends))
    some (b ∷ run) rest e all ends = all

-- ---- the last byte of a separator, and of a text

white_no_word : (b : ℕ) → is_white b ≡ true → is_word_byte b ≡ false
white_no_word b h = grind (arith, nat_tests)

end_no_word : (b : ℕ) → is_line_end b ≡ true → is_word_byte b ≡ false
end_no_word b h = grind (arith, nat_tests)

mutual
  gap_ends : (b : ℕ) (bs : List ℕ) → is_separator false (b ∷ bs) ≡ true → ends_with_word (b ∷ bs) ≡ false
  gap_ends b [] e =
      elim (chosen (b == 35) _ _ true e) [
        | inl c ↦ absurd (false≢true c.1)
        | inr c ↦ white_no_word b (and_parts (is_white b) true c.1).0
      ]
  gap_ends b (c ∷ bs) e =
      elim (chosen (b == 35) _ _ true e) [
        | inl h ↦ comment_ends c bs h.1
        | inr h ↦ gap_ends c bs (and_parts (is_white b) (is_separator false (c ∷ bs)) h.1).1
      ]

  comment_ends : (b : ℕ) (bs : List ℕ) → is_comment false (b ∷ bs) ≡ true → ends_with_word (b ∷ bs) ≡ false
  comment_ends b [] e =
      elim (chosen (is_line_end b) _ _ true e) [
        | inl h ↦ end_no_word b h.0
        | inr h ↦ absurd (false≢true h.1)
      ]
  comment_ends b (c ∷ bs) e =
      elim (chosen (is_line_end b) _ _ true e) [
        | inl h ↦ gap_ends c bs h.1
        | inr h ↦ comment_ends c bs h.1
      ]

mutual
  gap_may_end : (gap : List ℕ) → is_separator false gap ≡ true → is_separator true gap ≡ true
  gap_may_end [] e = refl
  gap_may_end (b ∷ bs) e =
      elim (chosen (b == 35) _ _ true e) [
        | inl h ↦ rw h.0 (comment_may_end bs h.1)
        | inr h ↦ let w = and_parts (is_white b) (is_separator false bs) h.1 in rw (h.0, w.0) (gap_may_end bs w.1)
      ]

  comment_may_end : (gap : List ℕ) → is_comment false gap ≡ true → is_comment true gap ≡ true
  comment_may_end [] e = refl
  comment_may_end (b ∷ bs) e =
      elim (chosen (is_line_end b) _ _ true e) [
        | inl h ↦ rw h.0 (gap_may_end bs h.1)
        | inr h ↦ rw h.0 (comment_may_end bs h.1)
      ]

pub ends_of : (xs ys : List ℕ) → (ys ≡ [] → ⊥) → ends_with_word (xs ++ ys) ≡ ends_with_word ys
ends_of xs [] some = absurd (some refl)
ends_of [] (y ∷ ys) some = refl
ends_of (x ∷ []) (y ∷ ys) some = refl
ends_of (x ∷ z ∷ xs) (y ∷ ys) some = ends_of (z ∷ xs) (y ∷ ys) some

begins_of : (xs ys zs : List ℕ) → (xs ≡ [] → ⊥) → begins_with_word (xs ++ ys) ≡ begins_with_word (xs ++ zs)
begins_of [] ys zs some = absurd (some refl)
begins_of (x ∷ xs) ys zs some = refl

-- ---- what has been read

-- the front is these tokens, whatever follows it that no word character touches
pub record IsUpTo (text front : List ℕ) (tokens : List Token) (unread : List ℕ) : Type 0 where
  pub whole : text ≡ front ++ unread
  pub apart : ends_with_word front ≡ true → begins_with_word unread ≡ false
  pub onward : (more : List ℕ) (others : List Token) → (ends_with_word front ≡ true → begins_with_word more ≡ false) → SpellsFrom (length front) more others → Spells (front ++ more) (tokens ++ others)

pub up_to_none : (text : List ℕ) → IsUpTo text [] [] text
up_to_none text = record { whole = refl; apart = λ h. absurd (false≢true h); onward = λ more others a s. s }

pub up_to_next : (text front : List ℕ) (tokens : List Token) (unread : List ℕ) (token : Token) (others : List ℕ) → IsUpTo text front tokens unread
    → token_at (skip unread) ≡ Some (token.kind, token.text, others) → (token.text ≡ [] → ⊥) → token.at + length (skip unread) ≡ length text
    → IsUpTo text (front ++ ((skip_takes unread).gap ++ token.text)) (tokens ++ token ∷ []) others
up_to_next text front tokens unread token others u t some place =
    let f = token_takes (skip unread) _ t in
    let g = skip_takes unread in
    let gap = g.gap in
    let piece = gap ++ token.text in
    let behind : unread ≡ piece ++ others = g.whole ∙ ap (λ (s : List ℕ). gap ++ s) f.whole ∙ sym (append_assoc gap token.text others) in
    let whole : text ≡ (front ++ piece) ++ others = u.whole ∙ ap (λ (s : List ℕ). front ++ s) behind ∙ sym (append_assoc front piece others) in
    let last : ends_with_word (front ++ piece) ≡ ends_with_word token.text =
    ap ends_with_word (sym (append_assoc front gap token.text)) ∙ ends_of (front ++ gap) token.text some in
    let sizes : length text ≡ length front + length unread = ap length u.whole ∙ length-append front unread in
    let sizes' : length unread ≡ length gap + length (skip unread) = ap length g.whole ∙ length-append gap (skip unread) in
    let size : length (front ++ piece) ≡ length front + length gap + length token.text = omega (arith, length-append front piece, length-append gap token.text) in
    record {
      whole = whole;
      apart = λ h. f.apart (sym last ∙ h);
      onward = λ more next a s.
          let same : begins_with_word (piece ++ more) ≡ begins_with_word unread =
          begins_of piece more others (not_nothing gap token.text some) ∙ ap begins_with_word (sym behind) in
          let all = u.onward (piece ++ more) (token ∷ next) (λ h. same ∙ u.apart h)
          (gap, more, refl, g.separates (not_empty (skip unread) _ t), omega arith, f.of_kind, λ h. a (last ∙ h), subst (λ (n : ℕ). SpellsFrom n more next) size s) in
          subst (λ (s : List ℕ). Spells s ((tokens ++ token ∷ []) ++ next)) (sym (append_assoc front piece more))
          (subst (Spells (front ++ (piece ++ more))) (sym (append_assoc tokens (token ∷ []) next)) all);
    }
  where
    not_nothing : (xs ys : List ℕ) → (ys ≡ [] → ⊥) → xs ++ ys ≡ [] → ⊥
    not_nothing [] ys n e = n e
    not_nothing (x ∷ xs) ys n e = absurd (cc)

-- where the next token is to begin
pub up_to_here : (text front : List ℕ) (tokens : List Token) (unread : List ℕ) (at : ℕ) → IsUpTo text front tokens unread → (skip unread ≡ [] → ⊥) → at + length (skip unread) ≡ length text
    → IsNext text at (skip unread)
up_to_here text front tokens unread at u some place =
    let g = skip_takes unread in
    let gap = g.gap in
    let separates = g.separates some in
    let whole : text ≡ (front ++ gap) ++ skip unread = u.whole ∙ ap (λ (s : List ℕ). front ++ s) g.whole ∙ sym (append_assoc front gap (skip unread)) in
    let size : length text ≡ length (front ++ gap) + length (skip unread) = ap length whole ∙ length-append (front ++ gap) (skip unread) in
    let at_end : at ≡ length (front ++ gap) = omega arith in
    let before : take at text ≡ front ++ gap =
    ap (λ (n : ℕ). take n text) at_end ∙ ap (take (length (front ++ gap))) whole ∙ take-append_seam (front ++ gap) (skip unread) in
    let here : drop at text ≡ skip unread =
    ap (λ (n : ℕ). drop n text) at_end ∙ ap (drop (length (front ++ gap))) whole ∙ drop-append_seam (front ++ gap) (skip unread) in
    let sign : Token = record { kind = Opening; text = codes "("; at = at } in
    record {
      here = here;
      reached = record {
        tokens = tokens;
        spelled = subst (λ (s : List ℕ). Spells s tokens) (sym before) (subst (Spells (front ++ gap)) (append-nil tokens) (u.onward gap [] (apart_gap gap g.whole) (gap_may_end gap separates)));
        next = subst (λ (s : List ℕ). Spells (s ++ codes "(") (tokens ++ sign ∷ [])) (sym before)
            (subst (λ (s : List ℕ). Spells s (tokens ++ sign ∷ [])) (sym (append_assoc front gap (codes "(")))
            (u.onward (gap ++ codes "(") (sign ∷ []) (apart_sign gap g.whole)
            (gap, [], sym (append-nil (gap ++ codes "(")), separates, omega (arith, length-append front gap), refl, λ h. refl, refl)));
      };
      apart = λ w. ap ends_with_word before ∙ no_cut gap g.whole separates w;
    }
  where
    apart_gap : (gap : List ℕ) → unread ≡ gap ++ skip unread → ends_with_word front ≡ true → begins_with_word gap ≡ false
    apart_gap [] e h = refl
    apart_gap (b ∷ bs) e h = ap begins_with_word (sym e) ∙ u.apart h

    apart_sign : (gap : List ℕ) → unread ≡ gap ++ skip unread → ends_with_word front ≡ true → begins_with_word (gap ++ codes "(") ≡ false
    apart_sign [] e h = refl
    apart_sign (b ∷ bs) e h = ap begins_with_word (sym e) ∙ u.apart h

    no_cut : (gap : List ℕ) → unread ≡ gap ++ skip unread → is_separator false gap ≡ true → begins_with_word (skip unread) ≡ true → ends_with_word (front ++ gap) ≡ false
    no_cut [] e s w = false_from_ne_true _ (λ h. false≢true (sym (u.apart (ap ends_with_word (sym (append-nil front)) ∙ h)) ∙ ap begins_with_word e ∙ w))
    no_cut (b ∷ bs) e s w = ends_of front (b ∷ bs) (λ n. absurd (cc)) ∙ gap_ends b bs s

-- ---- where a token is to begin no separator does

mutual
  pub skip_is_done : (text : List ℕ) → begins is_gap_byte (skip text) ≡ false
  skip_is_done [] = refl
  skip_is_done (b ∷ bs) =
      elim (b == 35) as (λ t. b == 35 ≡ t → begins is_gap_byte (cond t (skip_comment bs) (cond (is_white b) (skip bs) (b ∷ bs))) ≡ false) [
        | true ↦ λ e. comment_is_done bs
        | false ↦ λ e.
            elim (is_white b) as (λ t. is_white b ≡ t → begins is_gap_byte (cond t (skip bs) (b ∷ bs)) ≡ false) [
              | true ↦ λ w. skip_is_done bs
              | false ↦ λ w. rw (w, e) refl
            ] refl
      ] refl

  comment_is_done : (text : List ℕ) → begins is_gap_byte (skip_comment text) ≡ false
  comment_is_done [] = refl
  comment_is_done (b ∷ bs) =
      elim (is_line_end b) as (λ t. begins is_gap_byte (cond t (skip bs) (skip_comment bs)) ≡ false) [
        | true ↦ skip_is_done bs
        | false ↦ comment_is_done bs
      ]

-- ---- the four faults

pub string_placed : (text : List ℕ) (at : ℕ) (bytes : List ℕ) → IsNext text at bytes → token_at bytes ≡ None → begins is_quote bytes ≡ true → IsPlaced text (OpenString at)
string_placed text at bytes next none quote = (next.reached, subst IsOpenString (sym next.here) (quote, no_string_begins bytes none))

pub iri_placed : (text : List ℕ) (at : ℕ) (bytes : List ℕ) → IsNext text at bytes → token_at bytes ≡ None → begins is_angle bytes ≡ true → IsPlaced text (OpenIri at)
iri_placed text at bytes next none angle = (next.reached, subst IsOpenIri (sym next.here) (angle, no_iri_begins bytes none))

pub word_placed : (text : List ℕ) (at : ℕ) (bytes : List ℕ) → IsNext text at bytes → token_at bytes ≡ None → begins is_word_byte bytes ≡ true → IsPlaced text (WordsTouch at)
word_placed text at bytes next none word =
    (next.reached, subst (IsNoWord (take at text)) (sym next.here) (no_word_begins (take at text) bytes none word (next.apart (sym (begins_same bytes) ∙ word))))

pub byte_placed : (text : List ℕ) (at : ℕ) (bytes : List ℕ) → IsNext text at bytes → token_at bytes ≡ None → begins is_other bytes ≡ true → IsPlaced text (BadByte at)
byte_placed text at bytes next none other = (next.reached, subst IsBadByte (sym next.here) (other, no_token_begins bytes none))
