-- What a refusal of a text says.
use Rattle.std.specs.Prelude.{◌≡◌, ℕ, List, [], ◌∷◌, ◌++◌, Bool, true, false, ◌&&◌, ◌||◌, not, ◌==◌, take, drop, codes}
use Rattle.fs_lexer.specs.Spelling.{Token, Kind, Opening, FullIri, Quoted, IsOfKind, is_word_byte, is_white, is_run, begins, begins_with_word, ends_with_word, Spells}
pub use Rattle.fs_lexer.specs.declared.token.LexFault.{LexFault}
use Rattle.fs_lexer.specs.declared.token.LexFault.TheVariants.{BadByte, OpenString, OpenIri, WordsTouch, Memory}

-- any fault but that memory ran out
abbrev pub IsRefusal : LexFault → Type 0
IsRefusal Memory = ⊥
IsRefusal _ = Unit {0}

-- a quote, <, white space or #, and what is none of these and no word character
abbrev pub is_quote : ℕ → Bool
is_quote b = b == 34

abbrev pub is_angle : ℕ → Bool
is_angle b = b == 60

abbrev pub is_gap_byte : ℕ → Bool
is_gap_byte b = is_white b || b == 35

abbrev pub is_other : ℕ → Bool
is_other b = not (is_quote b) && not (is_angle b) && not (is_gap_byte b) && not (is_word_byte b)

-- some front of the bytes is a token of the kind
abbrev pub BeginsWith : Kind → List ℕ → Type 0
BeginsWith kind bytes = (text : List ℕ) × (rest : List ℕ) × (bytes ≡ text ++ rest) × IsOfKind kind text

-- some front of the bytes is a token. Behind one that ends with a word character none follows at once
abbrev pub BeginsToken : List ℕ → Type 0
BeginsToken bytes =
    (kind : Kind) × (text : List ℕ) × (rest : List ℕ) × (bytes ≡ text ++ rest) × IsOfKind kind text × (ends_with_word text ≡ true → begins_with_word rest ≡ false)

-- ---- what each fault says of the bytes from its place on

-- the first begins no token and no separator
abbrev pub IsBadByte : List ℕ → Type 0
IsBadByte bytes = (begins is_other bytes ≡ true) × ¬ BeginsToken bytes

-- no quoted string begins at this quote
abbrev pub IsOpenString : List ℕ → Type 0
IsOpenString bytes = (begins is_quote bytes ≡ true) × ¬ BeginsWith Quoted bytes

-- no full IRI begins at this <
abbrev pub IsOpenIri : List ℕ → Type 0
IsOpenIri bytes = (begins is_angle bytes ≡ true) × ¬ BeginsWith FullIri bytes

-- behind what stands before, a run of word characters begins, up to the next other character. It is of no kind
abbrev pub IsNoWord : List ℕ → List ℕ → Type 0
IsNoWord before bytes =
    (run : List ℕ) × (rest : List ℕ) × (bytes ≡ run ++ rest) × (is_run is_word_byte run ≡ true) × (ends_with_word before ≡ false) × (begins_with_word rest ≡ false)
    × ((kind : Kind) → ¬ IsOfKind kind run)

-- ---- the place

-- what stands before the place spells tokens, and a parenthesis at the place would be the next one
pub record IsReached (text : List ℕ) (at : ℕ) : Type 0 where
  pub tokens : List Token
  pub spelled : Spells (take at text) tokens
  pub next : Spells (take at text ++ codes "(") (tokens ++ record { kind = Opening; text = codes "("; at = at } ∷ [])

-- the text reads well up to the fault's place, and there it is as the fault says
abbrev pub IsPlaced : List ℕ → LexFault → Type 0
IsPlaced text (BadByte at) = IsReached text at × IsBadByte (drop at text)
IsPlaced text (OpenString at) = IsReached text at × IsOpenString (drop at text)
IsPlaced text (OpenIri at) = IsReached text at × IsOpenIri (drop at text)
IsPlaced text (WordsTouch at) = IsReached text at × IsNoWord (take at text) (drop at text)
IsPlaced text Memory = Unit {0}

-- a refusal that is true of the text
abbrev pub IsFault : List ℕ → LexFault → Type 0
IsFault text fault = IsRefusal fault × IsPlaced text fault

-- the text reads well up to the place, where these bytes begin and no word is cut
pub record IsNext (text : List ℕ) (at : ℕ) (bytes : List ℕ) : Type 0 where
  pub here : drop at text ≡ bytes
  pub reached : IsReached text at
  pub apart : begins_with_word bytes ≡ true → ends_with_word (take at text) ≡ false
