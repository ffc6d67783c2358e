-- Places in a document by line and column, and how its faults are told with them.
use Rattle.std.specs.Prelude.{◌≡◌, ◌≤◌, ◌==◌, ◌+◌, ◌++◌, ℕ, Bool, List, Option, Some, None, codes, length, not, option_map, reverse, take}
use Rattle.std.specs.Fmt.{decimal}
use Rattle.std.specs.List.{count_by, flat_map, take_while}
use Rattle.fs_lexer.specs.declared.token.LexFault.{LexFault}
use Rattle.fs_lexer.specs.declared.token.LexFault.TheVariants as lexing
use Rattle.fs_parser.specs.declared.fault.ParseFault.{ParseFault}
use Rattle.fs_parser.specs.declared.fault.ParseFault.TheVariants as parsing
use Rattle.profile.specs.Messages.{fault_text}
use Rattle.profile.specs.declared.fault.DocumentFault.{DocumentFault}
use Rattle.profile.specs.declared.fault.DocumentFault.TheVariants.{Faults, Lex, NotUtf8, Parse}
use Rattle.shapes.specs.Faults.{AnonymousIndividual, Fault, RefusedConstruct, RepeatedOperand, ReservedName, UnknownKeyword, UnknownName, WrongShape}
use Rattle.shapes.specs.Messages as shapes
use Rattle.shapes.specs.View.{faults_of}
use Rattle.receiving.specs.declared.places.Place.{Place}
use Rattle.telling.specs.Messages.{IsDocumentText}

-- ---- lines and columns

abbrev pub is_line_feed : ℕ → Bool
is_line_feed byte = byte == 10

-- the line of a place, of which so many bytes stand before it: one more than the line feeds among these
abbrev pub line_of : (bytes : List ℕ) → (at : ℕ) → ℕ
line_of bytes at = 1 + count_by is_line_feed (take at bytes)

-- its column: one more than the bytes from it back to the last line feed before it, or to the first byte where there is none
abbrev pub column_of : (bytes : List ℕ) → (at : ℕ) → ℕ
column_of bytes at = 1 + length (take_while (λ byte. not (is_line_feed byte)) (reverse (take at bytes)))

-- what is told of a place behind the line of a fault
abbrev pub place_text : (bytes : List ℕ) → (at : ℕ) → List ℕ
place_text bytes at = codes " line " ++ (decimal (line_of bytes at) ++ (codes " column " ++ (decimal (column_of bytes at) ++ codes "\n")))

-- a place of the bytes, with its line and its column
pub record IsPlaceIn (bytes : List ℕ) (place : Place) : Type 0 where
  pub within : place.at ≤ length bytes
  pub line : place.line ≡ line_of bytes place.at
  pub column : place.column ≡ column_of bytes place.at
  pub few_lines : place.line ≤ place.at + 1
  pub few_columns : place.column ≤ place.at + 1

-- ---- the places of faults

abbrev pub place_of_lexing : LexFault → Option ℕ
place_of_lexing (lexing.BadByte at) = Some at
place_of_lexing (lexing.OpenString at) = Some at
place_of_lexing (lexing.OpenIri at) = Some at
place_of_lexing (lexing.WordsTouch at) = Some at
place_of_lexing lexing.Memory = None

abbrev pub place_of_parsing : ParseFault → Option ℕ
place_of_parsing (parsing.Unexpected at) = Some at
place_of_parsing (parsing.UnexpectedEnd at) = Some at
place_of_parsing (parsing.UnknownPrefix at) = Some at
place_of_parsing (parsing.PrefixTwice at) = Some at
place_of_parsing (parsing.StandardPrefixChanged at) = Some at
place_of_parsing (parsing.TooDeep at) = Some at
place_of_parsing parsing.Memory = None

-- the place of a fault of the whole document, where it has one
abbrev pub place_of_document : DocumentFault → Option ℕ
place_of_document (NotUtf8 at) = Some at
place_of_document (Lex fault) = place_of_lexing fault
place_of_document (Parse fault) = place_of_parsing fault
place_of_document fault = None

-- that of a fault of its trees
abbrev pub place_in_trees : Fault → ℕ
place_in_trees (RefusedConstruct at keyword) = at
place_in_trees (UnknownKeyword at keyword) = at
place_in_trees (WrongShape at) = at
place_in_trees (RepeatedOperand at) = at
place_in_trees (ReservedName at) = at
place_in_trees (AnonymousIndividual at) = at
place_in_trees (UnknownName at) = at

-- ---- what is told

-- the line of a fault of the trees of a document of these bytes, with its place
abbrev pub lined_fault : (bytes : List ℕ) → Fault → List ℕ
lined_fault bytes fault = shapes.fault_text fault ++ place_text bytes (place_in_trees fault)

-- the lines of a fault of a document of these bytes, each with its place; none where it has no place
abbrev pub lined_text : (bytes : List ℕ) → DocumentFault → Option (List ℕ)
lined_text bytes (Faults found) = Some (flat_map (lined_fault bytes) (faults_of found.items))
lined_text bytes fault = option_map (λ at. fault_text fault ++ place_text bytes at) (place_of_document fault)

-- a text is these lines, or, where there are none, what is told without lines
abbrev pub IsLinedOr : Option (List ℕ) → (IsPlain : List ℕ → Type 0) → List ℕ → Type 0
IsLinedOr None IsPlain text = IsPlain text
IsLinedOr (Some lines) IsPlain text = text ≡ lines

-- the text is told of the fault of the document at the path, whose bytes are these
abbrev pub IsLinedText : (path : List ℕ) → (most : ℕ) → (bytes : List ℕ) → DocumentFault → List ℕ → Type 0
IsLinedText path most bytes fault text = IsLinedOr (lined_text bytes fault) (IsDocumentText path most fault) text
