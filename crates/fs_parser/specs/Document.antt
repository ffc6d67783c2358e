-- Documents, and which lists of tokens are one (OWL 2 Structural Specification, section 3.7).
use Rattle.std.specs.Prelude.{◌≡◌, ℕ, List, [], ◌∷◌, ◌++◌, codes, ◌⊎◌}
use Rattle.std.specs.List.{Contains}
use Rattle.fs_lexer.specs.declared.token.Kind.TheVariants.{Opening, Closing, Equals, FullIri, Keyword, PrefixName}
use Rattle.fs_lexer.specs.Spelling.{Token}
use Rattle.fs_parser.specs.Name.{Prefixes, standard_prefixes, IsBracketed}
use Rattle.fs_parser.specs.Tree.{Trees, AreClosed, IsSign}

-- what a document declares, and the trees of its ontology
pub record Document : Type 0 where
  pub declared : Prefixes
  pub trees : Trees

-- the tokens are Prefix(name:=<iri>) and the rest
pub record IsDeclaration (declared : List ℕ × List ℕ) (tokens rest : List Token) : Type 0 where
  pub word : Token
  pub opening : Token
  pub name : Token
  pub equals : Token
  pub iri : Token
  pub closing : Token
  pub tokens_are : tokens ≡ word ∷ opening ∷ name ∷ equals ∷ iri ∷ closing ∷ rest
  pub keyword : (word.kind ≡ Keyword) × (word.text ≡ codes "Prefix")
  pub signs : IsSign Opening opening × IsSign Equals equals × IsSign Closing closing
  pub name_is : (name.kind ≡ PrefixName) × (name.text ≡ declared.0 ++ codes ":")
  pub iri_is : (iri.kind ≡ FullIri) × IsBracketed declared.1 iri.text

-- the tokens are these declarations and the rest
abbrev pub AreDeclarations : Prefixes → List Token → List Token → Type 0
AreDeclarations [] tokens rest = tokens ≡ rest
AreDeclarations (d ∷ ds) tokens rest = (others : List Token) × IsDeclaration d tokens others × AreDeclarations ds others rest

-- a standard prefix may be declared again as what it is, and no other name is declared twice
abbrev pub IsAllowed : Prefixes → List ℕ × List ℕ → Type 0
IsAllowed known d = Contains standard_prefixes d ⊎ ((iri : List ℕ) → Contains known (d.0, iri) → ⊥)

-- the tokens begin with no declaration that may stand behind these
abbrev pub NoneIsDeclared : Prefixes → List Token → Type 0
NoneIsDeclared known tokens = (d : List ℕ × List ℕ) (rest : List Token) → IsDeclaration d tokens rest → IsAllowed known d → ⊥

abbrev pub AreAllowed : Prefixes → Prefixes → Type 0
AreAllowed known [] = Unit {0}
AreAllowed known (d ∷ ds) = IsAllowed known d × AreAllowed (known ++ d ∷ []) ds

-- the tokens are Ontology(trees), and at most so many parentheses are open at once in the trees
pub record IsOntology (limit : ℕ) (prefixes : Prefixes) (trees : Trees) (tokens : List Token) : Type 0 where
  pub word : Token
  pub opening : Token
  pub inside : List Token
  pub tokens_are : tokens ≡ word ∷ opening ∷ inside
  pub keyword : (word.kind ≡ Keyword) × (word.text ≡ codes "Ontology")
  pub opens : IsSign Opening opening
  pub closed : AreClosed limit prefixes trees inside

-- what a document's names are expanded with
abbrev pub prefixes_of : Document → Prefixes
prefixes_of document = standard_prefixes ++ document.declared

-- the tokens are exactly the document. At most 65 parentheses are open at once: one of Ontology, and 64 in its trees
pub record IsDocument (document : Document) (tokens : List Token) : Type 0 where
  pub rest : List Token
  pub declarations : AreDeclarations document.declared tokens rest
  pub allowed : AreAllowed standard_prefixes document.declared
  pub ontology : IsOntology 64 (prefixes_of document) document.trees rest
