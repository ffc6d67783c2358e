-- The texts of terms are UTF-8.
use Rattle.std.proofs.Common.{◌≡◌, ℕ, zero, suc, ◌<◌, true, List, [], ◌∷◌, ◌++◌, refl, arith}
use Rattle.std.specs.Prelude.{codes, slice_index}
use Rattle.std.specs.Char.{is_ascii_alphabetic}
use Rattle.std.specs.List.{list_all}
use Rattle.std.specs.Str.{IsUtf8, IsAscii}
use Rattle.std.proofs.lemmas.Bool.{and_parts}
use Rattle.std.proofs.lemmas.Str.{IsUtf8-append, IsUtf8-from_ascii, IsUtf8-nil}
use Rattle.std.proofs.lemmas.Str.Ascii.{IsAscii-nil}
use Rattle.std.proofs.lemmas.Bool.Decides.{nat_tests}
use Rattle.fs_lexer.specs.Spelling.{is_run}
use Rattle.fs_parser.proofs.SmallBytes.{plain}
use Rattle.statements_text.specs.Terms.{Term, Terms, Word, Of, None, And, HasSpelling, HaveSpelling, AllSpelled, term_text, terms_text, later_text, line_text, lines_text, terms_document}

letter_small : (b : ℕ) → is_ascii_alphabetic b ≡ true → b < 128
letter_small b h = grind (arith, nat_tests)

letters_small : (bs : List ℕ) → list_all is_ascii_alphabetic bs ≡ true → IsAscii bs
letters_small [] h = IsAscii-nil
letters_small (b ∷ bs) h = λ i. elim i as (λ i. slice_index (b ∷ bs) i < 128) [
  | zero ↦ letter_small b (and_parts (is_ascii_alphabetic b) (list_all is_ascii_alphabetic bs) h).0
  | suc j ↦ letters_small bs (and_parts (is_ascii_alphabetic b) (list_all is_ascii_alphabetic bs) h).1 j
]

utf8_keyword : (k : List ℕ) → is_run is_ascii_alphabetic k ≡ true → IsUtf8 k
utf8_keyword [] h = IsUtf8-nil
utf8_keyword (b ∷ bs) h = IsUtf8-from_ascii (b ∷ bs) (letters_small (b ∷ bs) h)

mutual
  pub utf8_term : (t : Term) → HasSpelling t → IsUtf8 (term_text t)
  utf8_term (Word iri) h = IsUtf8-append (codes "<") (iri ++ codes ">") (plain (codes "<") refl) (IsUtf8-append iri (codes ">") h.utf8 (plain (codes ">") refl))
  utf8_term (Of keyword operands) h =
      IsUtf8-append (keyword ++ codes "(") (terms_text operands ++ codes ")") (IsUtf8-append keyword (codes "(") (utf8_keyword keyword h.0) (plain (codes "(") refl))
      (IsUtf8-append (terms_text operands) (codes ")") (utf8_terms operands h.1) (plain (codes ")") refl))

  pub utf8_terms : (ts : Terms) → HaveSpelling ts → IsUtf8 (terms_text ts)
  utf8_terms None h = IsUtf8-nil
  utf8_terms (And first rest) h = IsUtf8-append (term_text first) (later_text rest) (utf8_term first h.0) (utf8_later rest h.1)

  pub utf8_later : (ts : Terms) → HaveSpelling ts → IsUtf8 (later_text ts)
  utf8_later None h = IsUtf8-nil
  utf8_later (And first rest) h =
      IsUtf8-append (codes " ") (term_text first ++ later_text rest) (plain (codes " ") refl)
      (IsUtf8-append (term_text first) (later_text rest) (utf8_term first h.0) (utf8_later rest h.1))

utf8_lines : (ts : List Term) → AllSpelled ts → IsUtf8 (lines_text ts)
utf8_lines [] h = IsUtf8-nil
utf8_lines (t ∷ ts) h = IsUtf8-append (line_text t) (lines_text ts) (IsUtf8-append (term_text t) (codes "\n") (utf8_term t h.0) (plain (codes "\n") refl)) (utf8_lines ts h.1)

pub utf8_document : (ts : List Term) → AllSpelled ts → IsUtf8 (terms_document ts)
utf8_document ts h =
    IsUtf8-append (codes "Ontology(\n") (lines_text ts ++ codes ")\n") (plain (codes "Ontology(\n") refl)
    (IsUtf8-append (lines_text ts) (codes ")\n") (utf8_lines ts h) (plain (codes ")\n") refl))
