-- Trees, and which lists of tokens are one (OWL 2 Structural Specification, sections 2.4 and 3.7).
use Rattle.std.specs.Prelude.{◌≡◌, ℕ, ◌+◌, ◌≤◌, List, [], ◌∷◌, ◌++◌, max}
use Rattle.fs_lexer.specs.declared.token.Kind.{Kind}
use Rattle.fs_lexer.specs.declared.token.Kind.TheVariants.{Opening, Closing, Carets, Quoted, LanguageTag, Keyword, Integer, NodeLabel}
use Rattle.fs_lexer.specs.Spelling.{Token}
use Rattle.fs_parser.specs.Name.{Prefixes, IsNameOf}

-- a tree with the place where it begins, names expanded
mutual
  pub data Tree : Type 0 where
    Name : (at : ℕ) (iri : List ℕ) → Tree
    PlainLiteral : (at : ℕ) (text : List ℕ) → Tree
    TaggedLiteral : (at : ℕ) (text tag : List ℕ) → Tree
    TypedLiteral : (at : ℕ) (text type : List ℕ) → Tree
    Anonymous : (at : ℕ) (label : List ℕ) → Tree
    Number : (at : ℕ) (digits : List ℕ) → Tree
    Group : (at : ℕ) (trees : Trees) → Tree
    Form : (at : ℕ) (keyword : List ℕ) (trees : Trees) → Tree

  pub data Trees : Type 0 where
    Empty : Trees
    Then : (first : Tree) (rest : Trees) → Trees

-- where a tree begins
abbrev pub place_of : Tree → ℕ
place_of (Name at iri) = at
place_of (PlainLiteral at text) = at
place_of (TaggedLiteral at text tag) = at
place_of (TypedLiteral at text type) = at
place_of (Anonymous at label) = at
place_of (Number at digits) = at
place_of (Group at trees) = at
place_of (Form at keyword trees) = at

-- a token of the kind, with this place and text
abbrev pub IsToken : Kind → ℕ → List ℕ → Token → Type 0
IsToken kind at text token = (token.kind ≡ kind) × (token.at ≡ at) × (token.text ≡ text)

abbrev pub IsSign : Kind → Token → Type 0
IsSign kind token = token.kind ≡ kind

-- the tokens are exactly the tree
abbrev mutual
  pub IsTree : Prefixes → Tree → List Token → Type 0
  IsTree prefixes (Name at iri) tokens = (t : Token) × (tokens ≡ t ∷ []) × (t.at ≡ at) × IsNameOf prefixes t iri
  IsTree prefixes (PlainLiteral at text) tokens = (t : Token) × (tokens ≡ t ∷ []) × IsToken Quoted at text t
  IsTree prefixes (TaggedLiteral at text tag) tokens =
      (t : Token) × (u : Token) × (tokens ≡ t ∷ u ∷ []) × IsToken Quoted at text t × (u.kind ≡ LanguageTag) × (u.text ≡ tag)
  IsTree prefixes (TypedLiteral at text type) tokens =
      (t : Token) × (u : Token) × (v : Token) × (tokens ≡ t ∷ u ∷ v ∷ []) × IsToken Quoted at text t × IsSign Carets u × IsNameOf prefixes v type
  IsTree prefixes (Anonymous at label) tokens = (t : Token) × (tokens ≡ t ∷ []) × IsToken NodeLabel at label t
  IsTree prefixes (Number at digits) tokens = (t : Token) × (tokens ≡ t ∷ []) × IsToken Integer at digits t
  IsTree prefixes (Group at trees) tokens =
      (open' : Token) × (close : Token) × (inner : List Token) × (tokens ≡ open' ∷ (inner ++ close ∷ []))
      × IsSign Opening open' × (open'.at ≡ at) × IsSign Closing close × AreTrees prefixes trees inner
  IsTree prefixes (Form at keyword trees) tokens =
      (word : Token) × (open' : Token) × (close : Token) × (inner : List Token) × (tokens ≡ word ∷ open' ∷ (inner ++ close ∷ []))
      × IsToken Keyword at keyword word × IsSign Opening open' × IsSign Closing close × AreTrees prefixes trees inner

  pub AreTrees : Prefixes → Trees → List Token → Type 0
  AreTrees prefixes Empty tokens = tokens ≡ []
  AreTrees prefixes (Then first rest) tokens =
      (a : List Token) × (b : List Token) × (tokens ≡ a ++ b) × IsTree prefixes first a × AreTrees prefixes rest b

-- how many parentheses are open at once
abbrev mutual
  pub depth : Tree → ℕ
  depth (Group at trees) = depth_of trees + 1
  depth (Form at keyword trees) = depth_of trees + 1
  depth tree = 0

  pub depth_of : Trees → ℕ
  depth_of Empty = 0
  depth_of (Then first rest) = max (depth first) (depth_of rest)

-- the tokens are the trees and a closing parenthesis, and at most so many parentheses are open at once in the trees
pub record AreClosed (limit : ℕ) (prefixes : Prefixes) (trees : Trees) (tokens : List Token) : Type 0 where
  pub inner : List Token
  pub closing : Token
  pub tokens_are : tokens ≡ inner ++ closing ∷ []
  pub closes : IsSign Closing closing
  pub are_trees : AreTrees prefixes trees inner
  pub shallow : depth_of trees ≤ limit

-- the tokens are exactly the tree, in which at most so many parentheses are open at once
pub record IsShallow (limit : ℕ) (prefixes : Prefixes) (tree : Tree) (tokens : List Token) : Type 0 where
  pub is_tree : IsTree prefixes tree tokens
  pub shallow : depth tree ≤ limit

-- the tokens are exactly the trees, in which at most so many parentheses are open at once
pub record AreShallow (limit : ℕ) (prefixes : Prefixes) (trees : Trees) (tokens : List Token) : Type 0 where
  pub are_trees : AreTrees prefixes trees tokens
  pub shallow : depth_of trees ≤ limit
