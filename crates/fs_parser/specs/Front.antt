-- The front of a list of tokens, and which declarations may stand there.
use Rattle.std.specs.Prelude.{◌≡◌, ℕ, List, [], ◌∷◌, ◌⊎◌}
use Rattle.std.specs.List.{Contains}
use Rattle.fs_lexer.specs.declared.token.Kind.{Kind}
use Rattle.fs_lexer.specs.declared.token.Kind.TheVariants.{Keyword}
use Rattle.fs_lexer.specs.Spelling.{Token}
use Rattle.fs_parser.specs.Name.{Prefixes, standard_prefixes}

-- the first token is of the kind
abbrev pub BeginsWithKind : Kind → List Token → Type 0
BeginsWithKind kind [] = ⊥
BeginsWithKind kind (t ∷ ts) = t.kind ≡ kind

-- the first token is this keyword
abbrev pub BeginsWith : List ℕ → List Token → Type 0
BeginsWith word [] = ⊥
BeginsWith word (t ∷ ts) = (t.kind ≡ Keyword) × (t.text ≡ word)

-- the tokens are the keyword and the rest
pub record IsWord (word : List ℕ) (tokens rest : List Token) : Type 0 where
  pub token : Token
  pub tokens_are : tokens ≡ token ∷ rest
  pub kind : token.kind ≡ Keyword
  pub text : token.text ≡ word

-- a prefix of this name may be declared: it is a standard one, or was not declared before
abbrev pub MayBeNamed : Prefixes → List ℕ → Type 0
MayBeNamed known name = ((iri : List ℕ) × Contains standard_prefixes (name, iri)) ⊎ ((iri : List ℕ) → Contains known (name, iri) → ⊥)

-- it may stand for this IRI: if it is a standard one, it is its own
abbrev pub MayStandFor : List ℕ → List ℕ → Type 0
MayStandFor name iri = (other : List ℕ) → Contains standard_prefixes (name, other) → iri ≡ other

-- it may not be named: one of these declares it, and it is no standard one
abbrev pub IsTaken : Prefixes → List ℕ → Type 0
IsTaken declared name = ((iri : List ℕ) × Contains declared (name, iri)) × ((iri : List ℕ) → Contains standard_prefixes (name, iri) → ⊥)

-- it may not stand for this IRI: it is a standard one, and its own is another
abbrev pub IsChangedTo : List ℕ → List ℕ → Type 0
IsChangedTo name iri = (other : List ℕ) × Contains standard_prefixes (name, other) × (iri ≡ other → ⊥)
