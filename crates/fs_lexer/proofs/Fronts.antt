-- The token at the front: what is read is one, and each one is read.
use Rattle.std.proofs.Common.{◌≡◌, ℕ, Bool, true, false, cond, List, [], ◌∷◌, ◌++◌, Option, Some, None, refl, sym, ap, subst, ◌∙◌, inl, inr, ◌⊎◌, append_assoc, codes}
use Rattle.std.specs.Prelude.{◌&&◌, ◌||◌, not, ◌==◌}
use Rattle.std.specs.List.{list_all}
use Rattle.std.specs.Char.{is_ascii_alphabetic, is_ascii_digit}
use Rattle.std.proofs.lemmas.Bool.{and_parts, and_from, or_cases, not-true, false≢true, true≢false, false_from_ne_true, eqb-true}
use Rattle.std.proofs.lemmas.Option.{none-some, same_Some}
use Rattle.lemmas.proofs.Choices.{chosen, passed}
use Rattle.fs_lexer.specs.Spelling.{begins, Kind, Opening, Closing, Equals, Carets, FullIri, Quoted, LanguageTag, Keyword, Integer, PrefixName, ShortName, NodeLabel, IsOfKind, is_run, is_tag_body, is_word_byte, is_iri_byte, is_white, is_line_end, ends_with_word, begins_with_word}
use Rattle.fs_lexer.specs.Reading.{Found, is_empty, span, string_at, word_kind, of_kind, word_at, tag_at, iri_at, iri_ends, quoted, carets_at, token_at}
use Rattle.fs_lexer.proofs.Pieces.{IsSpan, span_takes, span_again, string_takes, string_again, more_pass, Stands}
use Rattle.fs_lexer.proofs.Words.{IsWordKind, IsWordRun, letter_in_word, same_in_word, letter_or_digit, word_runs, word_again, word_takes, all_of_run}

pub record IsFound (bytes : List ℕ) (found : Found) : Type 0 where
  pub whole : bytes ≡ found.1 ++ found.2
  pub of_kind : IsOfKind found.0 found.1
  pub apart : ends_with_word found.1 ≡ true → begins_with_word found.2 ≡ false

pub begins_same : (text : List ℕ) → begins is_word_byte text ≡ begins_with_word text
begins_same [] = refl
begins_same (b ∷ bs) = refl

pub last_is : (front : List ℕ) (b : ℕ) → ends_with_word (front ++ b ∷ []) ≡ is_word_byte b
last_is [] b = refl
last_is (x ∷ []) b = refl
last_is (x ∷ y ∷ front) b = last_is (y ∷ front) b

pub run_ends : (text : List ℕ) → IsWordRun text → ends_with_word text ≡ true
run_ends [] h = absurd (false≢true h)
run_ends (b ∷ []) h = (and_parts (is_word_byte b) true h).0
run_ends (b ∷ c ∷ bs) h = run_ends (c ∷ bs) (and_parts (is_word_byte b) (is_run is_word_byte (c ∷ bs)) h).1

-- ---- what is read

word_found : (bytes : List ℕ) (p : List ℕ × List ℕ) (found : Found) → IsSpan is_word_byte bytes p → word_at p ≡ Some found → IsFound bytes found
word_found bytes p found s e = go (word_kind p.0) refl e
  where
    go : (o : Option Kind) → word_kind p.0 ≡ o → of_kind p o ≡ Some found → IsFound bytes found
    go None w k = absurd (none-some found k)
    go (Some kind) w k =
        subst (λ (f : Found). IsFound bytes f) (same_Some (kind, p.0, p.1) found k)
        (record { whole = s.whole; of_kind = (word_takes kind p.0 w).1; apart = λ _. sym (begins_same p.1) ∙ s.ends })

tag_found : (bytes : List ℕ) (p : List ℕ × List ℕ) (found : Found) → IsSpan is_word_byte bytes p → tag_at p ≡ Some found → IsFound (64 ∷ bytes) found
tag_found bytes p found s e =
    let t = passed (is_tag_body p.0) (Some (LanguageTag, 64 ∷ p.0, p.1)) found e in
    subst (λ (f : Found). IsFound (64 ∷ bytes) f) (same_Some (LanguageTag, 64 ∷ p.0, p.1) found t.1)
    (record { whole = ap (λ (x : List ℕ). 64 ∷ x) s.whole; of_kind = (p.0, refl, t.0); apart = λ _. sym (begins_same p.1) ∙ s.ends })

run_of_all : (test : ℕ → Bool) (xs : List ℕ) → is_empty xs ≡ false → list_all test xs ≡ true → is_run test xs ≡ true
run_of_all test [] n h = absurd (true≢false n)
run_of_all test (x ∷ xs) n h = h

iri_found : (bytes iri rest : List ℕ) (found : Found) → IsSpan is_iri_byte bytes (iri, rest) → iri_ends iri rest ≡ Some found → IsFound (60 ∷ bytes) found
iri_found bytes iri [] found s e = absurd (none-some found e)
iri_found bytes iri (b ∷ rest) found s e =
    let t = passed (b == 62 && not (is_empty iri)) (Some (FullIri, 60 ∷ (iri ++ 62 ∷ []), rest)) found e in
    let a = and_parts (b == 62) (not (is_empty iri)) t.0 in
    let same : b ≡ 62 = eqb-true b 62 a.0 in
    let whole : 60 ∷ bytes ≡ (60 ∷ (iri ++ 62 ∷ [])) ++ rest =
    ap (λ (x : List ℕ). 60 ∷ x) (s.whole ∙ ap (λ (x : ℕ). iri ++ x ∷ rest) same ∙ sym (append_assoc iri (62 ∷ []) rest)) in
    subst (λ (f : Found). IsFound (60 ∷ bytes) f) (same_Some (FullIri, 60 ∷ (iri ++ 62 ∷ []), rest) found t.1)
    (record { whole = whole; of_kind = (iri, refl, run_of_all is_iri_byte iri (not-true (is_empty iri) a.1) s.each); apart = λ h. absurd (false≢true (sym (last_is (60 ∷ iri) 62) ∙ h)) })

quoted_found : (bytes : List ℕ) (o : Option (List ℕ × List ℕ)) (found : Found) → string_at bytes ≡ o → quoted o ≡ Some found → IsFound (34 ∷ bytes) found
quoted_found bytes None found s e = absurd (none-some found e)
quoted_found bytes (Some p) found s e =
    let t = string_takes bytes p s in
    let whole : 34 ∷ bytes ≡ (34 ∷ (p.0 ++ 34 ∷ [])) ++ p.1 = ap (λ (x : List ℕ). 34 ∷ x) (t.whole ∙ sym (append_assoc p.0 (34 ∷ []) p.1)) in
    subst (λ (f : Found). IsFound (34 ∷ bytes) f) (same_Some (Quoted, 34 ∷ (p.0 ++ 34 ∷ []), p.1) found e)
    (record { whole = whole; of_kind = (p.0, refl, t.body); apart = λ h. absurd (false≢true (sym (last_is (34 ∷ p.0) 34) ∙ h)) })

carets_found : (bytes : List ℕ) (found : Found) → carets_at bytes ≡ Some found → IsFound (94 ∷ bytes) found
carets_found [] found e = absurd (none-some found e)
carets_found (b ∷ bs) found e =
    let t = passed (b == 94) (Some (Carets, codes "^^", bs)) found e in
    let same : b ≡ 94 = eqb-true b 94 t.0 in
    subst (λ (f : Found). IsFound (94 ∷ b ∷ bs) f) (same_Some (Carets, codes "^^", bs) found t.1)
    (record { whole = ap (λ (x : ℕ). 94 ∷ x ∷ bs) same; of_kind = refl; apart = λ h. absurd (false≢true h) })

sign_found : (kind : Kind) (sign b : ℕ) (bs : List ℕ) (found : Found) → b ≡ sign → IsOfKind kind (sign ∷ []) → is_word_byte sign ≡ false → Some (kind, sign ∷ [], bs) ≡ Some found → IsFound (b ∷ bs) found
sign_found kind sign b bs found same k w e =
    subst (λ (f : Found). IsFound (b ∷ bs) f) (same_Some (kind, sign ∷ [], bs) found e)
    (record { whole = ap (λ (x : ℕ). x ∷ bs) same; of_kind = k; apart = λ h. absurd (false≢true (sym w ∙ h)) })

pub token_takes : (bytes : List ℕ) (found : Found) → token_at bytes ≡ Some found → IsFound bytes found
unfolding token_at
token_takes [] found e = absurd (none-some found e)
token_takes (b ∷ bs) found e =
    elim (chosen (is_word_byte b) _ _ (Some found) e) [
      | inl w ↦ word_found (b ∷ bs) (span is_word_byte (b ∷ bs)) found (span_takes is_word_byte (b ∷ bs)) w.1
      | inr w ↦ elim (chosen (b == 40) _ _ (Some found) w.1) [
        | inl s ↦ sign_found Opening 40 b bs found (eqb-true b 40 s.0) refl refl s.1
        | inr s ↦ elim (chosen (b == 41) _ _ (Some found) s.1) [
          | inl s ↦ sign_found Closing 41 b bs found (eqb-true b 41 s.0) refl refl s.1
          | inr s ↦ elim (chosen (b == 61) _ _ (Some found) s.1) [
            | inl s ↦ sign_found Equals 61 b bs found (eqb-true b 61 s.0) refl refl s.1
            | inr s ↦ elim (chosen (b == 94) _ _ (Some found) s.1) [
              | inl s ↦ at 94 (eqb-true b 94 s.0) (carets_found bs found s.1)
              | inr s ↦ elim (chosen (b == 60) _ _ (Some found) s.1) [
                | inl s ↦ at 60 (eqb-true b 60 s.0) (iri_found bs (span is_iri_byte bs).0 (span is_iri_byte bs).1 found (span_takes is_iri_byte bs) s.1)
                | inr s ↦ elim (chosen (b == 34) _ _ (Some found) s.1) [
                  | inl s ↦ at 34 (eqb-true b 34 s.0) (quoted_found bs (string_at bs) found refl s.1)
                  | inr s ↦
                      let t = passed (b == 64) (tag_at (span is_word_byte bs)) found s.1 in
                      at 64 (eqb-true b 64 t.0) (tag_found bs (span is_word_byte bs) found (span_takes is_word_byte bs) t.1)
                ]
              ]
            ]
          ]
        ]
      ]
    ]
  where
    at : (sign : ℕ) → b ≡ sign → IsFound (sign ∷ bs) found → IsFound (b ∷ bs) found
    at sign same h = subst (λ (x : ℕ). IsFound (x ∷ bs) found) (sym same) h

-- ---- what is there is read

pub tag_in_word : (body : List ℕ) → is_tag_body body ≡ true → IsWordRun body
tag_in_word [] h = absurd (false≢true h)
tag_in_word (b ∷ bs) h =
    let a = and_parts (is_ascii_alphabetic b) _ h in
    and_from (is_word_byte b) _ (letter_in_word b a.0)
    (more_pass (λ c. is_ascii_alphabetic c || is_ascii_digit c || c == 45) is_word_byte bs
    (λ c k. elim (or_cases (is_ascii_alphabetic c || is_ascii_digit c) (c == 45) k) [ inl l ↦ letter_or_digit c l | inr m ↦ same_in_word c 45 m refl ]) a.1)

word_read : (kind : Kind) (text rest : List ℕ) → IsWordKind kind → IsOfKind kind text → (ends_with_word text ≡ true → begins_with_word rest ≡ false) → token_at (text ++ rest) ≡ Some (kind, text, rest)
unfolding token_at
word_read kind [] rest w h apart = absurd (false≢true (word_runs kind [] w h))
word_read kind (b ∷ bs) rest w h apart =
    let run = word_runs kind (b ∷ bs) w h in
    let a = and_parts (is_word_byte b) (list_all is_word_byte bs) run in
    let none = begins_same rest ∙ apart (run_ends (b ∷ bs) run) in
    let s : span is_word_byte ((b ∷ bs) ++ rest) ≡ (b ∷ bs, rest) = span_again is_word_byte (b ∷ bs) rest run none in
    cond_first (is_word_byte b) _ _ a.0 ∙ ap word_at s ∙ ap (of_kind (b ∷ bs, rest)) (word_again kind (b ∷ bs) w h)
  where
    cond_first : (t : Bool) (x y : Option Found) → t ≡ true → cond t x y ≡ x
    cond_first true x y e = refl
    cond_first false x y e = absurd (false≢true e)

iri_read : (iri rest : List ℕ) → is_run is_iri_byte iri ≡ true → iri_at (span is_iri_byte (iri ++ 62 ∷ rest)) ≡ Some (FullIri, 60 ∷ (iri ++ 62 ∷ []), rest)
iri_read [] rest h = absurd (false≢true h)
iri_read (b ∷ iri) rest h = ap iri_at (span_again is_iri_byte (b ∷ iri) (62 ∷ rest) h refl)

pub token_again : (kind : Kind) (text rest : List ℕ) → IsOfKind kind text → (ends_with_word text ≡ true → begins_with_word rest ≡ false) → token_at (text ++ rest) ≡ Some (kind, text, rest)
unfolding token_at
token_again Opening text rest e apart = rw e refl
token_again Closing text rest e apart = rw e refl
token_again Equals text rest e apart = rw e refl
token_again Carets text rest e apart = rw e refl
token_again FullIri text rest (iri, e, h) apart = rw (e, append_assoc iri (62 ∷ []) rest) (iri_read iri rest h)
token_again Quoted text rest (body, e, h) apart = rw (e, append_assoc body (34 ∷ []) rest) (ap quoted (string_again body rest h))
token_again LanguageTag text rest (body, e, h) apart =
    let run = tag_in_word body h in
    let none : begins is_word_byte rest ≡ false = begins_same rest ∙ apart (rw e (tag_ends body run)) in
    rw e (ap tag_at (span_again is_word_byte body rest (all_of_run is_word_byte body run) none) ∙ rw h refl)
  where
    tag_ends : (body : List ℕ) → IsWordRun body → ends_with_word (64 ∷ body) ≡ true
    tag_ends [] h = absurd (false≢true h)
    tag_ends (b ∷ bs) h = run_ends (b ∷ bs) h
token_again Keyword text rest h apart = word_read Keyword text rest tt h apart
token_again Integer text rest h apart = word_read Integer text rest tt h apart
token_again PrefixName text rest h apart = word_read PrefixName text rest tt h apart
token_again ShortName text rest h apart = word_read ShortName text rest tt h apart
token_again NodeLabel text rest h apart = word_read NodeLabel text rest tt h apart

-- ---- no separator begins where a token does

no_token : (b : ℕ) (bs : List ℕ) (found : Found) → b ≡ 32 ⊎ (b ≡ 9 ⊎ (b ≡ 10 ⊎ (b ≡ 13 ⊎ b ≡ 35))) → token_at (b ∷ bs) ≡ Some found → ⊥
unfolding token_at
no_token b bs found (inl e) t = none-some found (rw e at t)
no_token b bs found (inr (inl e)) t = none-some found (rw e at t)
no_token b bs found (inr (inr (inl e))) t = none-some found (rw e at t)
no_token b bs found (inr (inr (inr (inl e)))) t = none-some found (rw e at t)
no_token b bs found (inr (inr (inr (inr e)))) t = none-some found (rw e at t)

pub token_stands : (bytes : List ℕ) (found : Found) → token_at bytes ≡ Some found → Stands bytes
unfolding token_at
token_stands [] found t = absurd (none-some found t)
token_stands (b ∷ bs) found t = record {
  comment = false_from_ne_true (b == 35) (λ e. no_token b bs found (inr (inr (inr (inr (eqb-true b 35 e))))) t);
  white = false_from_ne_true (is_white b) (λ e.
      elim (or_cases (b == 32 || b == 9) (is_line_end b) e) [
        | inl w ↦ elim (or_cases (b == 32) (b == 9) w) [
          | inl s ↦ no_token b bs found (inl (eqb-true b 32 s)) t
          | inr s ↦ no_token b bs found (inr (inl (eqb-true b 9 s))) t
        ]
        | inr w ↦ elim (or_cases (b == 10) (b == 13) w) [
          | inl s ↦ no_token b bs found (inr (inr (inl (eqb-true b 10 s)))) t
          | inr s ↦ no_token b bs found (inr (inr (inr (inl (eqb-true b 13 s))))) t
        ]
      ]);
}
