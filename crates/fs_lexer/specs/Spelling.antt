-- Tokens, and which texts spell a list of them (OWL 2 Structural Specification, sections 2.3 and 2.4, in ASCII where
-- names are prefixed). Texts are bytes; all signs are ASCII, so a byte of a longer character is in no token but a full
-- IRI or a string, and in no separator but a comment.
use Rattle.std.specs.Prelude.{◌≡◌, ℕ, ◌+◌, List, [], ◌∷◌, ◌++◌, Bool, true, false, ◌≤◌, take, drop, ◌&&◌, ◌||◌, not, ◌==◌, nat_le, length, if◌then◌else◌, codes, ◌⊎◌}
use Rattle.std.specs.List.{list_any, list_all}
use Rattle.std.specs.Char.{is_ascii_alphabetic, is_ascii_digit}
-- the kinds of tokens
pub use Rattle.fs_lexer.specs.declared.token.Kind.{Kind}
pub use Rattle.fs_lexer.specs.declared.token.Kind.TheVariants.{Opening, Closing, Equals, Carets, FullIri, Quoted, LanguageTag, Keyword, Integer, PrefixName, ShortName, NodeLabel}

-- a token's kind, its bytes as they stand in the text, and where they begin
pub record Token : Type 0 where
  pub kind : Kind
  pub text : List ℕ
  pub at : ℕ

-- letters, digits and _ - . :
abbrev pub is_word_byte : ℕ → Bool
is_word_byte b = is_ascii_alphabetic b || is_ascii_digit b || list_any (λ s. b == s) (codes "_-.:")

-- line feed and carriage return; with space and tab, white space
abbrev pub is_line_end : ℕ → Bool
is_line_end b = b == 10 || b == 13

abbrev pub is_white : ℕ → Bool
is_white b = b == 32 || b == 9 || is_line_end b

-- all but U+0000 to U+0020 and <>"{}|^`\
abbrev pub is_iri_byte : ℕ → Bool
is_iri_byte b = not (nat_le b 32) && not (list_any (λ s. b == s) (60 ∷ 62 ∷ 34 ∷ 123 ∷ 125 ∷ 124 ∷ 94 ∷ 96 ∷ 92 ∷ []))

-- ---- the forms of tokens

-- some bytes that all pass the test
abbrev pub is_run : (ℕ → Bool) → List ℕ → Bool
is_run test [] = false
is_run test (b ∷ bs) = test b && list_all test bs

-- inside a string: a quote or a backslash stands only behind a backslash
abbrev pub is_string_body : List ℕ → Bool
is_string_body [] = true
is_string_body (b ∷ []) = not (b == 34) && not (b == 92)
is_string_body (b ∷ c ∷ bs) =
    if b == 92 then (c == 34 || c == 92) && is_string_body bs else not (b == 34) && is_string_body (c ∷ bs)

-- a letter, and then letters, digits and -
abbrev pub is_tag_body : List ℕ → Bool
is_tag_body [] = false
is_tag_body (b ∷ bs) = is_ascii_alphabetic b && list_all (λ c. is_ascii_alphabetic c || is_ascii_digit c || c == 45) bs

-- a colon, or a letter, then letters, digits, _ and -, then a colon
abbrev pub IsPrefixName : List ℕ → Type 0
IsPrefixName text =
    (text ≡ codes ":") ⊎ ((b : ℕ) × (bs : List ℕ) × (text ≡ b ∷ (bs ++ codes ":")) × (is_ascii_alphabetic b ≡ true)
    × (list_all (λ c. is_ascii_alphabetic c || is_ascii_digit c || c == 95 || c == 45) bs ≡ true))

abbrev pub is_last_dot : List ℕ → Bool
is_last_dot [] = false
is_last_dot (b ∷ []) = b == 46
is_last_dot (b ∷ c ∷ bs) = is_last_dot (c ∷ bs)

-- a letter, a digit or _, and then these and - and ., the last no dot
abbrev pub is_local_name : List ℕ → Bool
is_local_name [] = false
is_local_name (b ∷ bs) =
    (is_ascii_alphabetic b || is_ascii_digit b || b == 95)
    && list_all (λ c. is_ascii_alphabetic c || is_ascii_digit c || c == 95 || c == 45 || c == 46) bs && not (is_last_dot bs)

-- the bytes are a token of the kind
abbrev pub IsOfKind : Kind → List ℕ → Type 0
IsOfKind Opening text = text ≡ codes "("
IsOfKind Closing text = text ≡ codes ")"
IsOfKind Equals text = text ≡ codes "="
IsOfKind Carets text = text ≡ codes "^^"
IsOfKind FullIri text = (iri : List ℕ) × (text ≡ codes "<" ++ iri ++ codes ">") × (is_run is_iri_byte iri ≡ true)
IsOfKind Quoted text = (body : List ℕ) × (text ≡ codes "\"" ++ body ++ codes "\"") × (is_string_body body ≡ true)
IsOfKind LanguageTag text = (body : List ℕ) × (text ≡ codes "@" ++ body) × (is_tag_body body ≡ true)
IsOfKind Keyword text = is_run is_ascii_alphabetic text ≡ true
IsOfKind Integer text = is_run is_ascii_digit text ≡ true
IsOfKind PrefixName text = IsPrefixName text
IsOfKind ShortName text = (prefix : List ℕ) × (local : List ℕ) × (text ≡ prefix ++ local) × IsPrefixName prefix × (is_local_name local ≡ true)
IsOfKind NodeLabel text = (local : List ℕ) × (text ≡ codes "_:" ++ local) × (is_local_name local ≡ true)

-- ---- separators

-- white space and comments. A comment goes to a line's end, or, in the last separator, to the text's end
abbrev mutual
  pub is_separator : Bool → List ℕ → Bool
  is_separator last [] = true
  is_separator last (b ∷ bs) = if b == 35 then is_comment last bs else is_white b && is_separator last bs

  pub is_comment : Bool → List ℕ → Bool
  is_comment last [] = last
  is_comment last (b ∷ bs) = if is_line_end b then is_separator last bs else is_comment last bs

-- the first byte passes the test
abbrev pub begins : (ℕ → Bool) → List ℕ → Bool
begins test [] = false
begins test (b ∷ bs) = test b

abbrev pub ends_with_word : List ℕ → Bool
ends_with_word [] = false
ends_with_word (b ∷ []) = is_word_byte b
ends_with_word (b ∷ c ∷ bs) = ends_with_word (c ∷ bs)

abbrev pub begins_with_word : List ℕ → Bool
begins_with_word [] = false
begins_with_word (b ∷ bs) = is_word_byte b

-- the bytes from a place on spell the tokens: a separator, a token, and so on, and a separator at the end.
-- Behind a token that ends with a word character none follows at once
abbrev pub SpellsFrom : ℕ → List ℕ → List Token → Type 0
SpellsFrom at text [] = is_separator true text ≡ true
SpellsFrom at text (token ∷ tokens) =
    (gap : List ℕ) × (rest : List ℕ) × (text ≡ gap ++ token.text ++ rest) × (is_separator false gap ≡ true)
    × (token.at ≡ at + length gap) × IsOfKind token.kind token.text
    × (ends_with_word token.text ≡ true → begins_with_word rest ≡ false)
    × SpellsFrom (at + length gap + length token.text) rest tokens

-- the whole text spells the tokens
abbrev pub Spells : List ℕ → List Token → Type 0
Spells text tokens = SpellsFrom 0 text tokens

-- each token's text is the slice of the source that begins at its place, and none begins before the one before it ends
abbrev pub AreSlicesFrom : ℕ → List ℕ → List Token → Type 0
AreSlicesFrom at text [] = Unit {0}
AreSlicesFrom at text (token ∷ tokens) =
    (at ≤ token.at) × (token.at + length token.text ≤ length text) × (take (length token.text) (drop token.at text) ≡ token.text)
    × AreSlicesFrom (token.at + length token.text) text tokens
