-- A document has at least as many bytes as its ontology has axioms.
use Rattle.std.proofs.Common.{ℕ, ◌+◌, ◌<◌, ◌≤◌, inl, inr, List, [], ◌∷◌, ◌++◌, length, Option, Some, None, sym, ap, arith, length-append, true≢false}
use Rattle.std.specs.List.{cons_option, filter_map}
use Rattle.std.proofs.lemmas.List.{length-map}
use Rattle.axioms.specs.Ontology.{axiom_tree}
use Rattle.axioms.specs.Numbering.{logical_axiom}
use Rattle.profile.specs.DocumentTheorems.{AxiomsTakeBytes}
use Rattle.fs_lexer.specs.Spelling.{IsOfKind, IsPrefixName, SpellsFrom, Token}
use Rattle.fs_lexer.specs.declared.token.Kind.{Kind}
use Rattle.fs_lexer.specs.declared.token.Kind.TheVariants.{Opening, Closing, Equals, Carets, FullIri, Quoted, LanguageTag, Keyword, Integer, PrefixName, ShortName, NodeLabel}
use Rattle.fs_parser.specs.Document.{AreDeclarations}
use Rattle.fs_parser.specs.Name.{Prefixes}
use Rattle.fs_parser.specs.Tree.{AreTrees, IsTree, Tree, Trees, Empty, Then, Name, PlainLiteral, TaggedLiteral, TypedLiteral, Anonymous, Number, Group, Form}
use Rattle.shapes.specs.Faults.{count_of}
use Rattle.program.specs.declared.version.Version.{Version}
use Rattle.shapes.specs.Shapes.{Says, row}
use Rattle.shapes.specs.TreeStatements.{Stated, meaning, said, statement_in}
use Rattle.profile.specs.Statements.{statement_of, statements}

-- ---- tokens take bytes

prefix_takes : (text : List ℕ) → IsPrefixName text → 0 < length text
prefix_takes text (inl h) = omega (arith, ap length h)
prefix_takes text (inr h) = omega (arith, ap length h.2)

token_takes : (kind : Kind) (text : List ℕ) → IsOfKind kind text → 0 < length text
token_takes Opening text h = omega (arith, ap length h)
token_takes Closing text h = omega (arith, ap length h)
token_takes Equals text h = omega (arith, ap length h)
token_takes Carets text h = omega (arith, ap length h)
token_takes FullIri text h = omega (arith, ap length h.1)
token_takes Quoted text h = omega (arith, ap length h.1)
token_takes LanguageTag text h = omega (arith, ap length h.1)
token_takes Keyword [] h = absurd (true≢false (sym h))
token_takes Keyword (b ∷ bs) h = omega arith
token_takes Integer [] h = absurd (true≢false (sym h))
token_takes Integer (b ∷ bs) h = omega arith
token_takes PrefixName text h = prefix_takes text h
token_takes ShortName text h = omega (arith, ap length h.2, length-append h.0 h.1, prefix_takes h.0 h.3)
token_takes NodeLabel text h = omega (arith, ap length h.1)

tokens_take : (at : ℕ) (text : List ℕ) (tokens : List Token) → SpellsFrom at text tokens → length tokens ≤ length text
tokens_take at text [] h = omega arith
tokens_take at text (token ∷ tokens) (gap, rest, whole, separates, place, kind, apart, others) =
    let later = tokens_take (at + length gap + length token.text) rest tokens others in
    omega (arith, later, ap length whole, length-append (gap ++ token.text) rest, length-append gap token.text, token_takes token.kind token.text kind)

-- ---- trees take tokens

tree_takes : (prefixes : Prefixes) (tree : Tree) (tokens : List Token) → IsTree prefixes tree tokens → 0 < length tokens
tree_takes prefixes (Name at iri) tokens h = omega (arith, ap length h.1)
tree_takes prefixes (PlainLiteral at text) tokens h = omega (arith, ap length h.1)
tree_takes prefixes (TaggedLiteral at text tag) tokens h = omega (arith, ap length h.2)
tree_takes prefixes (TypedLiteral at text type) tokens h = omega (arith, ap length h.3)
tree_takes prefixes (Anonymous at label) tokens h = omega (arith, ap length h.1)
tree_takes prefixes (Number at digits) tokens h = omega (arith, ap length h.1)
tree_takes prefixes (Group at trees) tokens h = omega (arith, ap length h.3)
tree_takes prefixes (Form at keyword trees) tokens h = omega (arith, ap length h.4)

trees_take : (prefixes : Prefixes) (trees : Trees) (tokens : List Token) → AreTrees prefixes trees tokens → count_of trees ≤ length tokens
trees_take prefixes Empty tokens h = omega arith
trees_take prefixes (Then first rest) tokens h =
    omega (arith, trees_take prefixes rest h.1 h.4, tree_takes prefixes first h.0 h.3, ap length h.2, length-append h.0 h.1)

declarations_take : (declared : Prefixes) (tokens rest : List Token) → AreDeclarations declared tokens rest → length rest ≤ length tokens
declarations_take [] tokens rest h = omega (arith, ap length h)
declarations_take (d ∷ ds) tokens rest h = omega (arith, ap length h.1.tokens_are, declarations_take ds h.0 rest h.2)

-- ---- a tree states at most one axiom

said_once : (says : Says) (trees : Trees) → length (said says trees) ≤ 1
said_once None trees = omega arith
said_once (Some says) trees = omega arith

one_stated : (version : Version) (tree : Tree) → length (statement_of version tree) ≤ 1
one_stated version tree = go (statement_in version tree)
  where
    go : (stated : Option Stated) → length (meaning stated) ≤ 1
    go None = omega arith
    go (Some stated) = said_once (row stated.0).2 stated.1

all_stated : (version : Version) (trees : Trees) → length (statements version trees) ≤ count_of trees
all_stated version Empty = omega arith
all_stated version (Then first rest) =
    omega (arith, one_stated version first, all_stated version rest, length-append (statement_of version first) (statements version rest))

one_more : {B : Type 0} (y : Option B) (ys : List B) → length (cons_option y ys) ≤ length ys + 1
one_more (Some y) ys = omega arith
one_more None ys = omega arith

filtered : {A B : Type 0} (f : A → Option B) (xs : List A) → length (filter_map f xs) ≤ length xs
filtered f [] = omega arith
filtered f (x ∷ xs) = omega (arith, one_more (f x) (filter_map f xs), filtered f xs)

pub axioms_take_bytes : AxiomsTakeBytes
axioms_take_bytes version bytes o r =
    let ontology = r.text.written.ontology in
    let closed = ontology.closed in
    let trees = r.document.trees in
    omega (
      arith,
      tokens_take 0 bytes r.text.tokens r.text.spelled,
      declarations_take r.document.declared r.text.tokens r.text.written.rest r.text.written.declarations,
      ap length ontology.tokens_are,
      ap length closed.tokens_are,
      length-append closed.inner (closed.closing ∷ []),
      trees_take _ trees closed.inner closed.are_trees,
      all_stated version trees,
      filtered logical_axiom (statements version trees),
      ap length r.read.ontology.axioms,
      length-map o.axioms (axiom_tree o),
    )
