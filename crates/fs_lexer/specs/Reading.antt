-- Reading tokens from the front of the bytes.
use Rattle.std.specs.Prelude.{◌≡◌, ℕ, ◌+◌, List, [], ◌∷◌, ◌++◌, Bool, true, false, ◌&&◌, ◌||◌, not, ◌==◌, length, drop, if◌then◌else◌, codes, Option, Some, None}
use Rattle.std.specs.List.{list_all}
use Rattle.std.specs.Char.{is_ascii_alphabetic, is_ascii_digit}
use Rattle.fs_lexer.specs.Spelling.{Token, Kind, Opening, Closing, Equals, Carets, FullIri, Quoted, LanguageTag, Keyword, Integer, PrefixName, ShortName, NodeLabel, is_word_byte, is_line_end, is_white, is_iri_byte, is_run, is_tag_body, is_local_name}

-- a token's kind and text, and the bytes after it
abbrev pub Found : Type 0
Found = Kind × List ℕ × List ℕ

-- ---- separators

-- the bytes from the next token on
abbrev mutual
  pub skip : List ℕ → List ℕ
  skip [] = []
  skip (b ∷ bs) = if b == 35 then skip_comment bs else (if is_white b then skip bs else b ∷ bs)

  pub skip_comment : List ℕ → List ℕ
  skip_comment [] = []
  skip_comment (b ∷ bs) = if is_line_end b then skip bs else skip_comment bs

-- ---- tokens

abbrev pub onto : List ℕ → List ℕ × List ℕ → List ℕ × List ℕ
onto front p = (front ++ p.0, p.1)

abbrev pub onto_some : List ℕ → Option (List ℕ × List ℕ) → Option (List ℕ × List ℕ)
onto_some front None = None
onto_some front (Some p) = Some (onto front p)

-- the longest front that passes, and what follows
abbrev pub span : (ℕ → Bool) → List ℕ → List ℕ × List ℕ
span test [] = ([], [])
span test (b ∷ bs) = if test b then onto (b ∷ []) (span test bs) else ([], b ∷ bs)

-- behind a quote: a string's inside, and what follows its end
abbrev pub string_at : List ℕ → Option (List ℕ × List ℕ)
string_at [] = None
string_at (b ∷ []) = if b == 34 then Some ([], []) else None
string_at (b ∷ c ∷ bs) =
    if b == 34 then Some ([], c ∷ bs)
    else (if b == 92 then (if c == 34 || c == 92 then onto_some (b ∷ c ∷ []) (string_at bs) else None)
    else onto_some (b ∷ []) (string_at (c ∷ bs)))

-- what stands before and after the first colon
abbrev pub at_colon : List ℕ → Option (List ℕ × List ℕ)
at_colon [] = None
at_colon (b ∷ bs) = if b == 58 then Some ([], bs) else onto_some (b ∷ []) (at_colon bs)

abbrev pub is_name_byte : ℕ → Bool
is_name_byte c = is_ascii_alphabetic c || is_ascii_digit c || c == 95 || c == 45

abbrev pub is_tag_byte : ℕ → Bool
is_tag_byte c = is_ascii_alphabetic c || is_ascii_digit c || c == 45

abbrev pub is_local_byte : ℕ → Bool
is_local_byte c = is_ascii_alphabetic c || is_ascii_digit c || c == 95 || c == 45 || c == 46

-- a prefix name without its colon
abbrev pub is_prefix : List ℕ → Bool
is_prefix [] = true
is_prefix (b ∷ bs) = is_ascii_alphabetic b && list_all is_name_byte bs

abbrev pub is_low_line : List ℕ → Bool
is_low_line [] = false
is_low_line (b ∷ []) = b == 95
is_low_line (b ∷ c ∷ bs) = false

abbrev pub is_empty : List ℕ → Bool
is_empty [] = true
is_empty (b ∷ bs) = false

unfoldable pub colon_kind : List ℕ → List ℕ → Option Kind
colon_kind prefix local =
    if is_prefix prefix then (if is_empty local then Some PrefixName else (if is_local_name local then Some ShortName else None))
    else (if is_low_line prefix && is_local_name local then Some NodeLabel else None)

abbrev pub kind_by : Option (List ℕ × List ℕ) → Option Kind
kind_by None = None
kind_by (Some p) = colon_kind p.0 p.1

-- what a run of word characters is
unfoldable pub word_kind : List ℕ → Option Kind
word_kind word =
    if is_run is_ascii_alphabetic word then Some Keyword
    else (if is_run is_ascii_digit word then Some Integer else kind_by (at_colon word))

abbrev pub of_kind : List ℕ × List ℕ → Option Kind → Option Found
of_kind p None = None
of_kind p (Some kind) = Some (kind, p.0, p.1)

abbrev pub word_at : List ℕ × List ℕ → Option Found
word_at p = of_kind p (word_kind p.0)

abbrev pub tag_at : List ℕ × List ℕ → Option Found
tag_at p = if is_tag_body p.0 then Some (LanguageTag, 64 ∷ p.0, p.1) else None

abbrev pub iri_ends : List ℕ → List ℕ → Option Found
iri_ends iri [] = None
iri_ends iri (b ∷ rest) = if b == 62 && not (is_empty iri) then Some (FullIri, 60 ∷ (iri ++ 62 ∷ []), rest) else None

abbrev pub iri_at : List ℕ × List ℕ → Option Found
iri_at p = iri_ends p.0 p.1

abbrev pub quoted : Option (List ℕ × List ℕ) → Option Found
quoted None = None
quoted (Some p) = Some (Quoted, 34 ∷ (p.0 ++ 34 ∷ []), p.1)

abbrev pub carets_at : List ℕ → Option Found
carets_at [] = None
carets_at (b ∷ bs) = if b == 94 then Some (Carets, codes "^^", bs) else None

-- the token at the front
unfoldable pub token_at : List ℕ → Option Found
token_at [] = None
token_at (b ∷ bs) =
    if is_word_byte b then word_at (span is_word_byte (b ∷ bs))
    else (if b == 40 then Some (Opening, codes "(", bs)
    else (if b == 41 then Some (Closing, codes ")", bs)
    else (if b == 61 then Some (Equals, codes "=", bs)
    else (if b == 94 then carets_at bs
    else (if b == 60 then iri_at (span is_iri_byte bs)
    else (if b == 34 then quoted (string_at bs)
    else (if b == 64 then tag_at (span is_word_byte bs) else None)))))))

-- ---- all tokens

-- the tokens are read one after another, up to the end. There are n bytes in all, of which these are the last
abbrev pub AreReadFrom : ℕ → List ℕ → List Token → Type 0
AreReadFrom n bytes [] = skip bytes ≡ []
AreReadFrom n bytes (token ∷ tokens) =
    (rest : List ℕ) × (token_at (skip bytes) ≡ Some (token.kind, token.text, rest)) × (token.at + length (skip bytes) ≡ n)
    × AreReadFrom n rest tokens

abbrev pub IsRead : List ℕ → List Token → Type 0
IsRead bytes tokens = AreReadFrom (length bytes) bytes tokens

-- tokens that are read behind so many bytes of the text
abbrev pub AreReadBehind : ℕ → List ℕ → List Token → Type 0
AreReadBehind from text tokens = AreReadFrom (length text) (drop from text) tokens

-- the token is read first behind so many bytes of the text, and the others behind so many
abbrev pub IsReadFirst : ℕ → List ℕ → Token → ℕ → Type 0
IsReadFirst from text token to = (more : List Token) → AreReadBehind to text more → AreReadBehind from text (token ∷ more)

-- no token is read behind so many bytes of the text
abbrev pub NoneIsRead : ℕ → List ℕ → Type 0
NoneIsRead from text = (token : Token) (more : List Token) → AreReadBehind from text (token ∷ more) → ⊥

-- ---- what the code gives: kinds, and what follows

abbrev pub ahead : Option Found → Option (Kind × List ℕ)
ahead None = None
ahead (Some found) = Some (found.0, found.2)

-- the first quote or backslash, and what follows it
abbrev pub special_at : List ℕ → Option (ℕ × List ℕ)
special_at [] = None
special_at (b ∷ bs) = if b == 34 || b == 92 then Some (b, bs) else special_at bs

abbrev pub string_ahead : List ℕ → Option (Kind × List ℕ)
string_ahead bytes = ahead (quoted (string_at bytes))

-- what follows an escaped character
abbrev pub escaped_at : List ℕ → Option (List ℕ)
escaped_at [] = None
escaped_at (c ∷ bs) = if c == 34 || c == 92 then Some bs else None

abbrev pub escaped_ahead : Option (List ℕ) → Option (Kind × List ℕ)
escaped_ahead None = None
escaped_ahead (Some bs) = string_ahead bs

abbrev pub special_ahead : Option (ℕ × List ℕ) → Option (Kind × List ℕ)
special_ahead None = None
special_ahead (Some p) = if p.0 == 34 then Some (Quoted, p.1) else escaped_ahead (escaped_at p.1)
