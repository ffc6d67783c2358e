-- What is proved of trees and documents.
use Rattle.std.specs.Prelude.{◌≡◌, ℕ, ◌≤◌, List, ◌++◌, codes, length}
use Rattle.std.specs.List.{Contains}
use Rattle.fs_lexer.specs.Spelling.{Token, IsPrefixName, Spells}
use Rattle.fs_parser.specs.Faults.{end_of}
use Rattle.fs_parser.specs.Name.{Prefixes, StandForOne}
use Rattle.fs_parser.specs.Tree.{Tree, Trees, IsTree, AreTrees}
use Rattle.fs_parser.specs.Document.{Document, IsDocument, prefixes_of}

-- the names of a document's prefixes each stand for one IRI
abbrev pub DocumentsHavePrefixes : Type 0
DocumentsHavePrefixes = (document : Document) (tokens : List Token) → IsDocument document tokens → StandForOne (prefixes_of document)

-- with such prefixes a list of tokens is at most one list of trees
abbrev pub OneListOfTrees : Type 0
OneListOfTrees = (prefixes : Prefixes) → StandForOne prefixes → (tokens : List Token) (a b : Trees) → AreTrees prefixes a tokens → AreTrees prefixes b tokens → a ≡ b

-- with prefixes that each stand for one IRI a list of tokens is at most one tree
abbrev pub OneTree : Type 0
OneTree = (prefixes : Prefixes) → StandForOne prefixes → (tokens : List Token) (a b : Tree) → IsTree prefixes a tokens → IsTree prefixes b tokens → a ≡ b

-- and so it is at most one document
abbrev pub OneDocument : Type 0
OneDocument = (tokens : List Token) (d e : Document) → IsDocument d tokens → IsDocument e tokens → d ≡ e

-- the name of a prefix, as the lexer has it, holds no colon but the one at its end
abbrev pub PrefixNamesEndAtColon : Type 0
PrefixNamesEndAtColon = (text : List ℕ) → IsPrefixName text → (name : List ℕ) × (text ≡ name ++ codes ":") × (Contains name 58 → ⊥)

-- the tokens of a text end in the text, so their end is a place
abbrev pub TokensEndInText : Type 0
TokensEndInText = (text : List ℕ) (tokens : List Token) → Spells text tokens → end_of tokens ≤ length text
