-- What is left of a document whose trees are read one by one.
use Rattle.std.specs.Prelude.{◌≡◌, ℕ, ◌-◌, ◌<◌, ◌≤◌, List, [], ◌∷◌, ◌++◌, Option, Some, None, length}
use Rattle.fs_parser.specs.Name.{Prefixes, standard_prefixes}
use Rattle.fs_parser.specs.Stream.{AreFormsOf, AreTreesBehind}
use Rattle.fs_parser.specs.Tree.{Tree}
use Rattle.fs_parser.specs.View.{trees_from}

-- the prefixes that the document declares, its text, and how many bytes of the text stand before what is left
pub record TextLeft : Type 0 where
  pub declared : Prefixes
  pub text : List ℕ
  pub at : ℕ

abbrev pub text_left : Prefixes → List ℕ → ℕ → TextLeft
text_left declared text at = record { declared = declared; text = text; at = at }

-- how many bytes are left
abbrev pub bytes_left : TextLeft → ℕ
bytes_left left = length left.text - left.at

-- what is left is these trees, and a closing parenthesis at the end of the text
abbrev pub AreLeft : TextLeft → List Tree → Type 0
AreLeft left trees = AreTreesBehind left.text left.at (standard_prefixes ++ left.declared) (trees_from trees)

-- the text is the document of its prefixes and of the trees that are left, whichever they are
abbrev pub IsStartOf : List ℕ → TextLeft → Type 0
IsStartOf text left = (trees : List Tree) → AreLeft left trees → AreFormsOf text (record { declared = left.declared; trees = trees_from trees })

-- the tree comes first of what was left before, and what is left after it stands behind it
pub record IsFirst (before : TextLeft) (tree : Tree) (after : TextLeft) : Type 0 where
  pub declared : after.declared ≡ before.declared
  pub text : after.text ≡ before.text
  pub fewer : bytes_left after < bytes_left before
  pub others : (trees : List Tree) → AreLeft after trees → AreLeft before (tree ∷ trees)

-- the tree that comes next, if one comes; at the end none was left, and nothing changes
abbrev pub IsNext : TextLeft → Option Tree → TextLeft → Type 0
IsNext before None after = AreLeft before [] × (after ≡ before)
IsNext before (Some tree) after = IsFirst before tree after

-- this one tree stands behind so many bytes of the text, and so many before what follows it
pub record IsTreeAt (text : List ℕ) (at : ℕ) (prefixes : Prefixes) (tree : Tree) (behind : ℕ) : Type 0 where
  pub later : at < behind
  pub within : behind ≤ length text
  pub others : (trees : List Tree) → AreTreesBehind text behind prefixes (trees_from trees) → AreTreesBehind text at prefixes (trees_from (tree ∷ trees))
