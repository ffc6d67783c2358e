-- Words that are read in one pass: letters, and names whose prefix has letters alone.
use Rattle.std.proofs.Common.{◌≡◌, ℕ, Bool, true, false, List, [], ◌∷◌, ◌++◌, length, Option, Some, refl, sym, ap, subst, ◌∙◌, append_assoc}
use Rattle.std.specs.List.{list_all}
use Rattle.std.specs.Char.{is_ascii_alphabetic}
use Rattle.std.proofs.lemmas.Bool.{and_parts}
use Rattle.fs_lexer.specs.Spelling.{Kind, Keyword, begins_with_word, is_word_byte}
use Rattle.fs_lexer.specs.Reading.{ahead, colon_kind, is_local_byte, is_prefix, of_kind, span, word_at, word_kind}
use Rattle.fs_lexer.proofs.Pieces.{IsSpan, span_takes, span_again, more_pass}
use Rattle.fs_lexer.proofs.Fronts.{begins_same}
use Rattle.fs_lexer.proofs.Words.{all_append, colon_word, letter_in_name, letter_in_word, local_in_word, word_again}

-- what a run that was read says of the bytes
spanned : (test : ℕ → Bool) (bytes front rest : List ℕ) → ◌≡◌ {A = List ℕ × List ℕ} (front, rest) (span test bytes) → IsSpan test bytes (front, rest)
spanned test bytes front rest e = subst (IsSpan test bytes) (sym e) (span_takes test bytes)

pub all_spanned : (test : ℕ → Bool) (bytes front rest : List ℕ) → ◌≡◌ {A = List ℕ × List ℕ} (front, rest) (span test bytes) → list_all test front ≡ true
all_spanned test bytes front rest e = (spanned test bytes front rest e).each

keyword_kind : (letters : List ℕ) → (length letters ≡ 0 → ⊥) → list_all is_ascii_alphabetic letters ≡ true → word_kind letters ≡ Some Keyword
keyword_kind [] n all = absurd (n refl)
keyword_kind (b ∷ bs) n all = word_again Keyword (b ∷ bs) tt all

pub keyword_ahead : (bytes letters rest : List ℕ) → ◌≡◌ {A = List ℕ × List ℕ} (letters, rest) (span is_ascii_alphabetic bytes)
    → (length letters ≡ 0 → ⊥) → begins_with_word rest ≡ false → ahead (word_at (span is_word_byte bytes)) ≡ Some (Keyword, rest)
keyword_ahead bytes letters rest e some none =
    let s = spanned is_ascii_alphabetic bytes letters rest e in
    let words = ap (span is_word_byte) s.whole ∙ span_again is_word_byte letters rest (more_pass is_ascii_alphabetic is_word_byte letters letter_in_word s.each) (begins_same rest ∙ none) in
    let kind = keyword_kind letters some s.each in
    rw words (rw kind refl)

letters_are_prefix : (letters : List ℕ) → list_all is_ascii_alphabetic letters ≡ true → is_prefix letters ≡ true
letters_are_prefix [] all = refl
letters_are_prefix (b ∷ bs) all =
    let a = and_parts (is_ascii_alphabetic b) _ all in
    let names = more_pass is_ascii_alphabetic _ bs letter_in_name a.1 in
    rw a.0 names

any_prefix : (letters local : List ℕ) → list_all is_ascii_alphabetic letters ≡ true → colon_kind letters local ≡ colon_kind [] local
unfolding colon_kind
any_prefix letters local all = let p = letters_are_prefix letters all in rw p refl

pub name_ahead : (bytes letters others local rest : List ℕ) → ◌≡◌ {A = List ℕ × List ℕ} (letters, 58 ∷ others) (span is_ascii_alphabetic bytes)
    → ◌≡◌ {A = List ℕ × List ℕ} (local, rest) (span is_local_byte others) → begins_with_word rest ≡ false
    → ahead (word_at (span is_word_byte bytes)) ≡ ahead (of_kind (letters ++ 58 ∷ local, rest) (colon_kind [] local))
name_ahead bytes letters others local rest e f none =
    let s = spanned is_ascii_alphabetic bytes letters (58 ∷ others) e in
    let t = spanned is_local_byte others local rest f in
    let word = letters ++ 58 ∷ local in
    let whole : bytes ≡ word ++ rest = s.whole ∙ ap (λ (xs : List ℕ). letters ++ 58 ∷ xs) t.whole ∙ sym (append_assoc letters (58 ∷ local) rest) in
    let all : list_all is_word_byte word ≡ true =
    all_append is_word_byte letters (58 ∷ local) (more_pass is_ascii_alphabetic is_word_byte letters letter_in_word s.each) (more_pass is_local_byte is_word_byte local local_in_word t.each) in
    let words = ap (span is_word_byte) whole ∙ span_again is_word_byte word rest all (begins_same rest ∙ none) in
    let kind = colon_word letters local (more_pass is_ascii_alphabetic _ letters letter_in_name s.each) ∙ any_prefix letters local s.each in
    rw words (ap (λ (k : Option Kind). ahead (of_kind (word, rest) k)) kind)
