-- What a refusal of tokens says of the tokens.
use Rattle.std.specs.Prelude.{◌≡◌, ℕ, ◌+◌, ◌-◌, ◌^◌, ◌<◌, ◌≤◌, ◌⊎◌, List, [], ◌∷◌, ◌++◌, codes, length, min}
use Rattle.std.specs.List.{Contains}
use Rattle.fs_lexer.specs.declared.token.Kind.{Kind}
use Rattle.fs_lexer.specs.declared.token.Kind.TheVariants.{Opening, Closing, Equals, FullIri, Keyword, PrefixName, ShortName}
use Rattle.fs_lexer.specs.Spelling.{Token}
use Rattle.fs_parser.specs.declared.fault.ParseFault.{ParseFault}
use Rattle.fs_parser.specs.declared.fault.ParseFault.TheVariants.{Unexpected, UnexpectedEnd, UnknownPrefix, PrefixTwice, StandardPrefixChanged, TooDeep, Memory}
use Rattle.fs_parser.specs.Document.{AreDeclarations, AreAllowed}
use Rattle.fs_parser.specs.Front.{BeginsWith, IsTaken, IsChangedTo}
use Rattle.fs_parser.specs.Name.{Prefixes, standard_prefixes, IsShort, IsBracketed}
use Rattle.fs_parser.specs.Tree.{IsSign}

-- ---- places

-- one of the tokens begins at this place
abbrev pub IsStart : ℕ → List Token → Type 0
IsStart at tokens = (t : Token) × Contains tokens t × (t.at ≡ at)

-- where the last token ends, and 0 where there is none
abbrev pub end_of : List Token → ℕ
end_of [] = 0
end_of (t ∷ []) = t.at + length t.text
end_of (t ∷ u ∷ ts) = end_of (u ∷ ts)

-- where the last token ends, as a place, of which 2 ^ 64 - 1 is the last; 0 where there is none
abbrev pub last_place : List Token → ℕ
last_place tokens = min (end_of tokens) (2 ^ 64 - 1)

-- ---- parentheses

-- how many parentheses a token opens, and how many it closes
abbrev pub opens : Kind → ℕ
opens Opening = 1
opens _ = 0

abbrev pub closes : Kind → ℕ
closes Closing = 1
closes _ = 0

-- how many parentheses the tokens open, and how many they close
abbrev pub opened : List Token → ℕ
opened [] = 0
opened (t ∷ ts) = opens t.kind + opened ts

abbrev pub closed : List Token → ℕ
closed [] = 0
closed (t ∷ ts) = closes t.kind + closed ts

-- the parenthesis at this place opens where so many are open
pub record IsTooMany (limit : ℕ) (at : ℕ) (tokens : List Token) : Type 0 where
  pub before : List Token
  pub parenthesis : Token
  pub after : List Token
  pub tokens_are : tokens ≡ before ++ parenthesis ∷ after
  pub place : parenthesis.at ≡ at
  pub kind : parenthesis.kind ≡ Opening
  pub full : closed before + limit ≤ opened before

-- ---- prefixes

-- the short name at this place is short for no IRI, since its prefix is none of these
pub record IsUnknown (known : Prefixes) (at : ℕ) (tokens : List Token) : Type 0 where
  pub name : Token
  pub there : Contains tokens name
  pub place : name.at ≡ at
  pub kind : name.kind ≡ ShortName
  pub unknown : (iri : List ℕ) → IsShort known name.text iri → ⊥

-- the tokens begin with Ontology, and the short name at this place has a prefix that is no standard one and none of these
abbrev pub IsUndeclared : ℕ → Prefixes → List Token → Type 0
IsUndeclared at declared tokens = BeginsWith (codes "Ontology") tokens × IsUnknown (standard_prefixes ++ declared) at tokens

-- the tokens are Prefix(name and what is behind it, and this prefix has the name
pub record BeginsDeclaration (prefix : List ℕ) (name : Token) (tokens behind : List Token) : Type 0 where
  pub word : Token
  pub opening : Token
  pub tokens_are : tokens ≡ word ∷ opening ∷ name ∷ behind
  pub keyword : (word.kind ≡ Keyword) × (word.text ≡ codes "Prefix")
  pub opens : IsSign Opening opening
  pub name_is : (name.kind ≡ PrefixName) × (name.text ≡ prefix ++ codes ":")

-- the tokens begin with a declaration, and one of these declares the prefix whose name stands at this place
pub record IsTwice (at : ℕ) (declared : Prefixes) (tokens : List Token) : Type 0 where
  pub prefix : List ℕ
  pub name : Token
  pub behind : List Token
  pub begins : BeginsDeclaration prefix name tokens behind
  pub place : name.at ≡ at
  pub taken : IsTaken declared prefix

-- the tokens begin with a declaration, and the standard prefix whose name stands at this place gets another IRI
pub record IsChanged (at : ℕ) (tokens : List Token) : Type 0 where
  pub prefix : List ℕ
  pub iri : List ℕ
  pub name : Token
  pub equals : Token
  pub full : Token
  pub behind : List Token
  pub begins : BeginsDeclaration prefix name tokens (equals ∷ full ∷ behind)
  pub place : name.at ≡ at
  pub sign : IsSign Equals equals
  pub iri_is : (full.kind ≡ FullIri) × IsBracketed iri full.text
  pub changed : IsChangedTo prefix iri

-- behind declarations that are allowed stands what holds of them and of the rest of the tokens
pub record IsBehind (tokens : List Token) (Holds : Prefixes → List Token → Type 0) : Type 0 where
  pub declared : Prefixes
  pub rest : List Token
  pub declarations : AreDeclarations declared tokens rest
  pub allowed : AreAllowed standard_prefixes declared
  pub holds : Holds declared rest

-- at their end a parenthesis is open; or they are none, or one alone
abbrev pub IsUnended : List Token → Type 0
IsUnended tokens = (closed tokens < opened tokens) ⊎ (length tokens ≤ 1)

-- what each fault says of the tokens
abbrev pub IsPlaced : List Token → ParseFault → Type 0
IsPlaced tokens (Unexpected at) = IsStart at tokens
IsPlaced tokens (UnexpectedEnd at) = (at ≡ last_place tokens) × IsBehind tokens (λ declared. IsUnended)
IsPlaced tokens (UnknownPrefix at) = IsBehind tokens (IsUndeclared at)
IsPlaced tokens (PrefixTwice at) = IsBehind tokens (IsTwice at)
IsPlaced tokens (StandardPrefixChanged at) = IsBehind tokens (λ declared. IsChanged at)
IsPlaced tokens (TooDeep at) = IsTooMany 65 at tokens
IsPlaced tokens Memory = Unit {0}
