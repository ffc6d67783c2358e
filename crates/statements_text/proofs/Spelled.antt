-- The texts of terms spell their tokens.
use Rattle.std.proofs.Common.{◌≡◌, ℕ, ◌+◌, true, false, List, [], ◌∷◌, ◌++◌, length, refl, sym, ap, subst, ◌∙◌, append_assoc, arith}
use Rattle.std.specs.Prelude.{codes}
use Rattle.std.specs.Char.{is_ascii_alphabetic}
use Rattle.std.proofs.lemmas.Bool.{false≢true}
use Rattle.std.proofs.lemmas.List.{append-nil, length-append}
use Rattle.answer_texts.specs.Names.{name_text}
use Rattle.fs_lexer.specs.declared.token.Kind.{Kind}
use Rattle.fs_lexer.specs.declared.token.Kind.TheVariants.{Opening, Closing, FullIri}
use Rattle.fs_lexer.specs.Spelling.{Token, IsOfKind, SpellsFrom, Spells, ends_with_word, is_run, is_iri_byte}
use Rattle.statements_text.specs.Terms.{Term, Terms, Word, Of, None, And, HasSpelling, AllSpelled, HaveSpelling, term_text, terms_text, later_text, token, front_tokens, closing, term_tokens, terms_tokens, later_tokens, line_text, lines_text, lines_tokens, terms_document, document_tokens}

-- whatever follows, the text spells these tokens first
abbrev pub IsLaid : ℕ → List ℕ → List Token → Type 0
IsLaid at text tokens = (rest : List ℕ) (more : List Token) → SpellsFrom (at + length text) rest more → SpellsFrom at (text ++ rest) (tokens ++ more)

pub laid_token : (kind : Kind) (text : List ℕ) (at : ℕ) → IsOfKind kind text → ends_with_word text ≡ false → IsLaid at text (token kind text at ∷ [])
laid_token kind text at is_kind no_word rest more s =
    let here : at ≡ at + 0 = omega arith in
    let behind : at + length text ≡ at + 0 + length text = omega arith in
    ([], rest, refl, refl, here, is_kind, (λ e. absurd (false≢true (sym no_word ∙ e))), subst (λ n. SpellsFrom n rest more) behind s)

pub laid_both : (at : ℕ) (a b : List ℕ) (ts us : List Token) → IsLaid at a ts → IsLaid (at + length a) b us → IsLaid at (a ++ b) (ts ++ us)
laid_both at a b ts us first second rest more s =
    let size : at + length (a ++ b) ≡ at + length a + length b = omega (arith, length-append a b) in
    let inner : SpellsFrom (at + length a) (b ++ rest) (us ++ more) = second rest more (subst (λ n. SpellsFrom n rest more) size s) in
    subst (λ text. SpellsFrom at text ((ts ++ us) ++ more)) (sym (append_assoc a b rest))
    (subst (λ tokens. SpellsFrom at (a ++ (b ++ rest)) tokens) (sym (append_assoc ts us more)) (first (b ++ rest) (us ++ more) inner))

-- a keyword, and the parenthesis behind it
pub laid_front : (keyword : List ℕ) (at : ℕ) → is_run is_ascii_alphabetic keyword ≡ true → IsLaid at (keyword ++ codes "(") (front_tokens at keyword)
laid_front keyword at letters rest more s =
    let here : at ≡ at + 0 = omega arith in
    let size : at + length (keyword ++ codes "(") ≡ at + length keyword + 0 + 1 = omega (arith, length-append keyword (codes "(")) in
    let opening : at + length keyword ≡ at + length keyword + 0 = omega arith in
    let behind : at + length keyword ≡ at + 0 + length keyword = omega arith in
    let inner : SpellsFrom (at + length keyword) (codes "(" ++ rest) (token Opening (codes "(") (at + length keyword) ∷ more) =
    ([], rest, refl, refl, opening, refl, (λ e. absurd (false≢true e)), subst (λ n. SpellsFrom n rest more) size s) in
    subst (λ text. SpellsFrom at text (front_tokens at keyword ++ more)) (sym (append_assoc keyword (codes "(") rest)) (
      [],
      codes "(" ++ rest,
      refl,
      refl,
      here,
      letters,
      (λ e. refl),
      subst (λ n. SpellsFrom n (codes "(" ++ rest) (token Opening (codes "(") (at + length keyword) ∷ more)) behind inner,
    )

-- a space, or a line feed
laid_space : (at : ℕ) → IsLaid at (codes " ") []
laid_space at rest [] s = s
laid_space at rest (t ∷ ts) s =
    let place : t.at ≡ at + length (32 ∷ s.0) = omega (arith, s.4) in
    let size : at + 1 + length s.0 + length t.text ≡ at + length (32 ∷ s.0) + length t.text = omega arith in
    (32 ∷ s.0, s.1, ap (λ (x : List ℕ). 32 ∷ x) s.2, s.3, place, s.5, s.6, subst (λ n. SpellsFrom n s.1 ts) size s.7)

laid_line_feed : (at : ℕ) → IsLaid at (codes "\n") []
laid_line_feed at rest [] s = s
laid_line_feed at rest (t ∷ ts) s =
    let place : t.at ≡ at + length (10 ∷ s.0) = omega (arith, s.4) in
    let size : at + 1 + length s.0 + length t.text ≡ at + length (10 ∷ s.0) + length t.text = omega arith in
    (10 ∷ s.0, s.1, ap (λ (x : List ℕ). 10 ∷ x) s.2, s.3, place, s.5, s.6, subst (λ n. SpellsFrom n s.1 ts) size s.7)

laid_nothing : (at : ℕ) → IsLaid at [] []
laid_nothing at rest more s = let size : at + 0 ≡ at = omega arith in subst (λ n. SpellsFrom n rest more) size s

-- a byte before some bytes changes not how they end
ends_later : (b : ℕ) (iri : List ℕ) → ends_with_word (b ∷ (iri ++ codes ">")) ≡ false
ends_later b [] = refl
ends_later b (c ∷ iri) = ends_later c iri

laid_name : (iri : List ℕ) (at : ℕ) → is_run is_iri_byte iri ≡ true → IsLaid at (name_text iri) (token FullIri (name_text iri) at ∷ [])
laid_name iri at run = laid_token FullIri (name_text iri) at (iri, refl, run) (ends_later 60 iri)

mutual
  pub laid_term : (t : Term) (at : ℕ) → HasSpelling t → IsLaid at (term_text t) (term_tokens at t)
  laid_term (Word iri) at h = laid_name iri at h.spelled
  laid_term (Of keyword operands) at h =
      let front = at + length (keyword ++ codes "(") in
      laid_both at (keyword ++ codes "(") (terms_text operands ++ codes ")") (front_tokens at keyword)
      (terms_tokens front operands ++ closing (front + length (terms_text operands))) (laid_front keyword at h.0)
      (laid_both front (terms_text operands) (codes ")") (terms_tokens front operands) (closing (front + length (terms_text operands))) (laid_terms operands front h.1)
      (laid_token Closing (codes ")") (front + length (terms_text operands)) refl refl))

  pub laid_terms : (ts : Terms) (at : ℕ) → HaveSpelling ts → IsLaid at (terms_text ts) (terms_tokens at ts)
  laid_terms None at h = laid_nothing at
  laid_terms (And first rest) at h =
      laid_both at (term_text first) (later_text rest) (term_tokens at first) (later_tokens (at + length (term_text first)) rest) (laid_term first at h.0)
      (laid_later rest (at + length (term_text first)) h.1)

  pub laid_later : (ts : Terms) (at : ℕ) → HaveSpelling ts → IsLaid at (later_text ts) (later_tokens at ts)
  laid_later None at h = laid_nothing at
  laid_later (And first rest) at h =
      laid_both at (codes " ") (term_text first ++ later_text rest) [] (term_tokens (at + 1) first ++ later_tokens (at + 1 + length (term_text first)) rest) (laid_space at)
      (laid_both (at + 1) (term_text first) (later_text rest) (term_tokens (at + 1) first) (later_tokens (at + 1 + length (term_text first)) rest)
      (laid_term first (at + 1) h.0) (laid_later rest (at + 1 + length (term_text first)) h.1))

-- ---- lines

laid_line : (t : Term) (at : ℕ) → HasSpelling t → IsLaid at (line_text t) (term_tokens at t)
laid_line t at h =
    subst (λ tokens. IsLaid at (line_text t) tokens) (append-nil (term_tokens at t))
    (laid_both at (term_text t) (codes "\n") (term_tokens at t) [] (laid_term t at h) (laid_line_feed (at + length (term_text t))))

pub laid_lines : (ts : List Term) (at : ℕ) → AllSpelled ts → IsLaid at (lines_text ts) (lines_tokens at ts)
laid_lines [] at h = laid_nothing at
laid_lines (t ∷ ts) at h =
    laid_both at (line_text t) (lines_text ts) (term_tokens at t) (lines_tokens (at + length (line_text t)) ts) (laid_line t at h.0)
    (laid_lines ts (at + length (line_text t)) h.1)

laid_end : (at : ℕ) → IsLaid at (codes ")\n") (closing at)
laid_end at = laid_both at (codes ")") (codes "\n") (closing at) [] (laid_token Closing (codes ")") at refl refl) (laid_line_feed (at + 1))

laid_document : (ts : List Term) → AllSpelled ts → IsLaid 0 (terms_document ts) (document_tokens ts)
laid_document ts h =
    let behind = 10 + length (lines_text ts) in
    laid_both 0 (codes "Ontology(") (codes "\n" ++ (lines_text ts ++ codes ")\n")) (front_tokens 0 (codes "Ontology")) (lines_tokens 10 ts ++ closing behind)
    (laid_front (codes "Ontology") 0 refl)
    (laid_both 9 (codes "\n") (lines_text ts ++ codes ")\n") [] (lines_tokens 10 ts ++ closing behind) (laid_line_feed 9)
    (laid_both 10 (lines_text ts) (codes ")\n") (lines_tokens 10 ts) (closing behind) (laid_lines ts 10 h) (laid_end behind)))

-- the text of a document spells its tokens
pub spelled : (ts : List Term) → AllSpelled ts → Spells (terms_document ts) (document_tokens ts)
spelled ts h =
    let whole : SpellsFrom 0 (terms_document ts ++ []) (document_tokens ts ++ []) = laid_document ts h [] [] refl in
    subst (λ text. SpellsFrom 0 text (document_tokens ts)) (append-nil (terms_document ts))
    (subst (λ tokens. SpellsFrom 0 (terms_document ts ++ []) tokens) (append-nil (document_tokens ts)) whole)
