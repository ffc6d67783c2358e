-- What prefixes, trees and documents of the code are as values: without where their texts lie in memory.
use Rattle.std.specs.Prelude.{ℕ, List, [], ◌∷◌, ◌++◌, map}
use Rattle.fs_lexer.specs.Spelling as spelling
use Rattle.fs_lexer.specs.Views.{token_of}
use Rattle.fs_lexer.specs.declared.token.Token as lexer
use Rattle.fs_parser.specs.declared.iri.Iri as iri
use Rattle.fs_parser.specs.declared.prefix.Prefix as prefix
use Rattle.fs_parser.specs.declared.tree.Document as document
use Rattle.fs_parser.specs.declared.tree.Tree as code
use Rattle.fs_parser.specs.declared.tree.Tree.TheOpen as layer
use Rattle.fs_parser.specs.declared.tree.Tree.TheFolds.{fold-Tree}
use Rattle.fs_parser.specs.Name.{Prefixes}
use Rattle.fs_parser.specs.Tree.{Tree, Trees, Name, PlainLiteral, TaggedLiteral, TypedLiteral, Anonymous, Number, Group, Form, Empty, Then}
use Rattle.fs_parser.specs.Document.{Document}

abbrev pub tokens_of : List lexer.Token → List spelling.Token
tokens_of = map token_of

abbrev pub prefix_of : prefix.Prefix → List ℕ × List ℕ
prefix_of p = (p.name.now, p.iri.now)

abbrev pub prefixes_of_code : List prefix.Prefix → Prefixes
prefixes_of_code = map prefix_of

abbrev pub iri_of : iri.Iri → List ℕ
iri_of i = i.base.now ++ i.local.now

-- a list of trees as the definition's
abbrev pub trees_from : List Tree → Trees
trees_from [] = Empty
trees_from (t ∷ ts) = Then t (trees_from ts)

abbrev pub layer_of : layer.Tree-F Tree → Tree
layer_of (layer.Name at i) = Name at (iri_of i)
layer_of (layer.PlainLiteral at text) = PlainLiteral at text.now
layer_of (layer.TaggedLiteral at text tag) = TaggedLiteral at text.now tag.now
layer_of (layer.TypedLiteral at text i) = TypedLiteral at text.now (iri_of i)
layer_of (layer.Anonymous at label) = Anonymous at label.now
layer_of (layer.Number at digits) = Number at digits.now
layer_of (layer.Group at trees) = Group at (trees_from trees.items)
layer_of (layer.Form at keyword trees) = Form at keyword.now (trees_from trees.items)

abbrev pub tree_of : code.Tree → Tree
tree_of = fold-Tree Tree layer_of

abbrev pub trees_of : List code.Tree → Trees
trees_of ts = trees_from (map tree_of ts)

abbrev pub document_of : document.Document → Document
document_of d = record { declared = prefixes_of_code d.prefixes.items; trees = trees_of d.trees.items }
