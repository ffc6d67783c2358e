-- Documents as texts, without their list of tokens.
use Rattle.std.specs.Prelude.{◌≡◌, ℕ, ◌≤◌, List, [], ◌∷◌, ◌++◌, Some, drop, length}
use Rattle.fs_lexer.specs.Reading.{AreReadFrom, IsRead}
use Rattle.fs_lexer.specs.Spelling.{Token, Spells}
use Rattle.fs_parser.specs.Document.{Document, IsDocument}
use Rattle.fs_parser.specs.Machine.{State, finish}
use Rattle.fs_parser.specs.Name.{Prefixes, StandForOne, standard_prefixes}
use Rattle.fs_parser.specs.Tree.{Tree, Trees, AreClosed}

-- the text is spelled by tokens that are the document
pub record AreFormsOf (text : List ℕ) (document : Document) : Type 0 where
  pub tokens : List Token
  pub spelled : Spells text tokens
  pub written : IsDocument document tokens

-- the text begins with these tokens, and so many bytes stand before what follows them
pub record BeginText (text : List ℕ) (tokens : List Token) (at : ℕ) : Type 0 where
  pub within : at ≤ length text
  pub reads : (more : List Token) → AreReadFrom (length text) (drop at text) more → IsRead text (tokens ++ more)

-- the state's trees are whole, and nothing follows them
pub record AreWhole (text : List ℕ) (at : ℕ) (s : State) (trees : List Tree) : Type 0 where
  pub nothing : AreReadFrom (length text) (drop at text) []
  pub finished : finish s ≡ Some trees

-- what stands behind so many bytes of the text are the trees and a closing parenthesis
pub record AreTreesBehind (text : List ℕ) (at : ℕ) (prefixes : Prefixes) (trees : Trees) : Type 0 where
  pub tokens : List Token
  pub read : AreReadFrom (length text) (drop at text) tokens
  pub closed : AreClosed 64 prefixes trees tokens

-- the tokens are the declarations of these prefixes, which are allowed, and Ontology(
pub record IsHeader (declared : Prefixes) (header : List Token) : Type 0 where
  pub one : StandForOne (standard_prefixes ++ declared)
  pub with_trees : (trees : Trees) (tokens : List Token) → AreClosed 64 (standard_prefixes ++ declared) trees tokens
      → IsDocument (record { declared = declared; trees = trees }) (header ++ tokens)

-- all are the tokens and one more
abbrev pub IsOneMore : List Token → List Token → Type 0
IsOneMore tokens all = (last : Token) × (all ≡ tokens ++ last ∷ [])
