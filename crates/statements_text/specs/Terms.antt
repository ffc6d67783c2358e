-- Names and forms of them, without places: their text with single spaces, the tokens that it spells, and the tree that these are
-- (OWL 2 Structural Specification, sections 2.3, 2.4 and 3.7), and the terms of statements (sections 5.8, 8.1.1, 8.2.1 and 9).
use Rattle.std.specs.Prelude.{◌≡◌, ℕ, ◌+◌, ◌≤◌, List, [], ◌∷◌, ◌++◌, true, codes, length, max, map}
use Rattle.std.specs.List.{flat_map}
use Rattle.std.specs.Char.{is_ascii_alphabetic}
use Rattle.axioms.specs.Expression.{ClassExpression, Operands, Named, Intersection, SomeValues, Pair, Before, Iri}
use Rattle.axioms.specs.Axiom.{Axiom, SubClassOf, EquivalentClasses, DisjointClasses, SubPropertyOf, EquivalentProperties, PropertyDomain, TransitiveProperty, ReflexiveProperty, ClassAssertion, PropertyAssertion, SameIndividuals, DifferentIndividuals, NegativePropertyAssertion}
use Rattle.axioms.specs.Numbering.{Statement, DeclaresClass, DeclaresProperty, DeclaresIndividual, States}
use Rattle.answer_texts.specs.Names.{name_text}
use Rattle.fs_lexer.specs.declared.token.Kind.{Kind}
use Rattle.fs_lexer.specs.declared.token.Kind.TheVariants.{Opening, Closing, FullIri, Keyword}
use Rattle.fs_lexer.specs.Spelling.{Token, is_run}
use Rattle.program.specs.declared.version.Version.{Version}
use Rattle.program.specs.declared.version.Version.TheVariants.{One, Two}
use Rattle.shapes.specs.Faults.{faults}
use Rattle.shapes.specs.Shapes.{takes}
use Rattle.shapes.specs.declared.expected.Expected.TheVariants as expecting
use Rattle.fs_parser.specs.Name.{CanBeSpelled}
use Rattle.fs_parser.specs.Tree.{Tree, Trees, Name, Form, Empty, Then}

-- a name, or a keyword with operands
mutual
  pub data Term : Type 0 where
    Word : (iri : List ℕ) → Term
    Of : (keyword : List ℕ) (operands : Terms) → Term

  pub data Terms : Type 0 where
    None : Terms
    And : (first : Term) (rest : Terms) → Terms

-- its names can be spelled, and its keywords are letters
abbrev mutual
  pub HasSpelling : Term → Type 0
  HasSpelling (Word iri) = CanBeSpelled iri
  HasSpelling (Of keyword operands) = (is_run is_ascii_alphabetic keyword ≡ true) × HaveSpelling operands

  pub HaveSpelling : Terms → Type 0
  HaveSpelling None = Unit {0}
  HaveSpelling (And first rest) = HasSpelling first × HaveSpelling rest

-- each of them can be spelled
abbrev pub AllSpelled : List Term → Type 0
AllSpelled [] = Unit {0}
AllSpelled (t ∷ ts) = HasSpelling t × AllSpelled ts

-- ---- texts

-- the first operand stands behind the parenthesis
abbrev mutual
  pub term_text : Term → List ℕ
  term_text (Word iri) = name_text iri
  term_text (Of keyword operands) = (keyword ++ codes "(") ++ (terms_text operands ++ codes ")")

  pub terms_text : Terms → List ℕ
  terms_text None = []
  terms_text (And first rest) = term_text first ++ later_text rest

  -- each behind a space
  pub later_text : Terms → List ℕ
  later_text None = []
  later_text (And first rest) = codes " " ++ (term_text first ++ later_text rest)

-- ---- tokens, from a place on

-- a token at a place
abbrev pub token : Kind → List ℕ → ℕ → Token
token kind text at = record { kind = kind; text = text; at = at }

-- a keyword and a parenthesis
abbrev pub front_tokens : ℕ → List ℕ → List Token
front_tokens at keyword = token Keyword keyword at ∷ token Opening (codes "(") (at + length keyword) ∷ []

-- the parenthesis at the end
abbrev pub closing : ℕ → List Token
closing at = token Closing (codes ")") at ∷ []

-- those of a term, of the first operands, and of those behind a space
abbrev mutual
  pub term_tokens : ℕ → Term → List Token
  term_tokens at (Word iri) = token FullIri (name_text iri) at ∷ []
  term_tokens at (Of keyword operands) =
      front_tokens at keyword ++ (terms_tokens (at + length (keyword ++ codes "(")) operands ++ closing (at + length (keyword ++ codes "(") + length (terms_text operands)))

  pub terms_tokens : ℕ → Terms → List Token
  terms_tokens at None = []
  terms_tokens at (And first rest) = term_tokens at first ++ later_tokens (at + length (term_text first)) rest

  pub later_tokens : ℕ → Terms → List Token
  later_tokens at None = []
  later_tokens at (And first rest) = term_tokens (at + 1) first ++ later_tokens (at + 1 + length (term_text first)) rest

-- ---- trees, from a place on

-- that of a term, of the first operands, and of those behind a space
abbrev mutual
  pub term_tree : ℕ → Term → Tree
  term_tree at (Word iri) = Name at iri
  term_tree at (Of keyword operands) = Form at keyword (terms_trees (at + length (keyword ++ codes "(")) operands)

  pub terms_trees : ℕ → Terms → Trees
  terms_trees at None = Empty
  terms_trees at (And first rest) = Then (term_tree at first) (later_trees (at + length (term_text first)) rest)

  pub later_trees : ℕ → Terms → Trees
  later_trees at None = Empty
  later_trees at (And first rest) = Then (term_tree (at + 1) first) (later_trees (at + 1 + length (term_text first)) rest)

-- how many parentheses are open at once
abbrev mutual
  pub term_depth : Term → ℕ
  term_depth (Word iri) = 0
  term_depth (Of keyword operands) = terms_depth operands + 1

  pub terms_depth : Terms → ℕ
  terms_depth None = 0
  terms_depth (And first rest) = max (term_depth first) (terms_depth rest)

-- in each of them at most so many
abbrev pub AllShallow : ℕ → List Term → Type 0
AllShallow limit [] = Unit {0}
AllShallow limit (t ∷ ts) = (term_depth t ≤ limit) × AllShallow limit ts

-- ---- lines of terms

-- a term, and a line feed
abbrev pub line_text : Term → List ℕ
line_text t = term_text t ++ codes "\n"

-- one after the other
abbrev pub lines_text : List Term → List ℕ
lines_text ts = flat_map line_text ts

-- their tokens
abbrev pub lines_tokens : ℕ → List Term → List Token
lines_tokens at [] = []
lines_tokens at (t ∷ ts) = term_tokens at t ++ lines_tokens (at + length (line_text t)) ts

-- their trees
abbrev pub lines_trees : ℕ → List Term → Trees
lines_trees at [] = Empty
lines_trees at (t ∷ ts) = Then (term_tree at t) (lines_trees (at + length (line_text t)) ts)

-- a document of these lines
abbrev pub terms_document : List Term → List ℕ
terms_document ts = codes "Ontology(\n" ++ (lines_text ts ++ codes ")\n")

-- its tokens
abbrev pub document_tokens : List Term → List Token
document_tokens ts = front_tokens 0 (codes "Ontology") ++ (lines_tokens 10 ts ++ closing (10 + length (lines_text ts)))

-- ---- terms of statements

-- names as operands
abbrev pub words : List Iri → Terms
words [] = None
words (r ∷ rs) = And (Word r) (words rs)

-- the term of a class expression
abbrev mutual
  pub class_term : ClassExpression → Term
  class_term (Named c) = Word c
  class_term (Intersection operands) = Of (codes "ObjectIntersectionOf") (operand_terms operands)
  class_term (SomeValues r c) = Of (codes "ObjectSomeValuesFrom") (And (Word r) (And (class_term c) None))

  pub operand_terms : Operands → Terms
  operand_terms (Pair c d) = And (class_term c) (And (class_term d) None)
  operand_terms (Before c rest) = And (class_term c) (operand_terms rest)

-- class expressions as operands
abbrev pub class_terms : List ClassExpression → Terms
class_terms [] = None
class_terms (c ∷ cs) = And (class_term c) (class_terms cs)

-- one property, or a chain of two or more
abbrev pub chain_term : List Iri → Term
chain_term (r ∷ []) = Word r
chain_term rs = Of (codes "ObjectPropertyChain") (words rs)

-- the term of an axiom
abbrev pub axiom_term : Axiom → Term
axiom_term (SubClassOf c d) = Of (codes "SubClassOf") (And (class_term c) (And (class_term d) None))
axiom_term (EquivalentClasses cs) = Of (codes "EquivalentClasses") (class_terms cs)
axiom_term (DisjointClasses cs) = Of (codes "DisjointClasses") (class_terms cs)
axiom_term (SubPropertyOf chain s) = Of (codes "SubObjectPropertyOf") (And (chain_term chain) (And (Word s) None))
axiom_term (EquivalentProperties rs) = Of (codes "EquivalentObjectProperties") (words rs)
axiom_term (PropertyDomain r c) = Of (codes "ObjectPropertyDomain") (And (Word r) (And (class_term c) None))
axiom_term (TransitiveProperty r) = Of (codes "TransitiveObjectProperty") (And (Word r) None)
axiom_term (ReflexiveProperty r) = Of (codes "ReflexiveObjectProperty") (And (Word r) None)
axiom_term (ClassAssertion c a) = Of (codes "ClassAssertion") (And (class_term c) (And (Word a) None))
axiom_term (PropertyAssertion r a b) = Of (codes "ObjectPropertyAssertion") (And (Word r) (And (Word a) (And (Word b) None)))
axiom_term (SameIndividuals xs) = Of (codes "SameIndividual") (words xs)
axiom_term (DifferentIndividuals xs) = Of (codes "DifferentIndividuals") (words xs)
axiom_term (NegativePropertyAssertion r a b) = Of (codes "NegativeObjectPropertyAssertion") (And (Word r) (And (Word a) (And (Word b) None)))

-- the declaration of a name
abbrev pub declaration_term : List ℕ → Iri → Term
declaration_term kind name = Of (codes "Declaration") (And (Of kind (And (Word name) None)) None)

-- the term of a statement
abbrev pub statement_term : Statement → Term
statement_term (DeclaresClass c) = declaration_term (codes "Class") c
statement_term (DeclaresProperty r) = declaration_term (codes "ObjectProperty") r
statement_term (DeclaresIndividual a) = declaration_term (codes "NamedIndividual") a
statement_term (States axiom') = axiom_term axiom'

-- each statement's
abbrev pub statement_terms : List Statement → List Term
statement_terms ss = map statement_term ss

-- ---- what has to hold of statements

-- the first version that takes the statement
abbrev pub since : Statement → Version
since (States (SameIndividuals xs)) = Two
since (States (DifferentIndividuals xs)) = Two
since (States (NegativePropertyAssertion r a b)) = Two
since _ = One

-- the list has two or more, if it is one of operands; a chain has one or more
abbrev pub HasOperands : Statement → Type 0
HasOperands (States (EquivalentClasses cs)) = 2 ≤ length cs
HasOperands (States (DisjointClasses cs)) = 2 ≤ length cs
HasOperands (States (SubPropertyOf chain s)) = 1 ≤ length chain
HasOperands (States (EquivalentProperties rs)) = 2 ≤ length rs
HasOperands (States (SameIndividuals xs)) = 2 ≤ length xs
HasOperands (States (DifferentIndividuals xs)) = 2 ≤ length xs
HasOperands _ = Unit {0}

-- wherever it stands, the statement's tree has no fault in the version
abbrev pub HasNoFault : Version → Statement → Type 0
HasNoFault version s = (at : ℕ) → faults version expecting.Axiom (term_tree at (statement_term s)) ≡ []

-- the statement can be written so that it is read: its names can be spelled, and it is one of the version
pub record IsWritable (version : Version) (s : Statement) : Type 0 where
  pub spelled : HasSpelling (statement_term s)
  pub taken : takes version (since s) ≡ true
  pub operands : HasOperands s
  pub faultless : HasNoFault version s
  pub shallow : term_depth (statement_term s) ≤ 64

-- each of them can be written
abbrev pub AllWritable : Version → List Statement → Type 0
AllWritable version [] = Unit {0}
AllWritable version (s ∷ ss) = IsWritable version s × AllWritable version ss
