-- The statements of a document's trees: what its axioms and declarations say, by the table of shapes (OWL 2 Structural
-- Specification, sections 5.8, 8.1.1, 8.2.1, 9.1, 9.2 and 9.6). Annotations state nothing, nor do declarations of annotation properties.
use Rattle.std.specs.Prelude.{List, [], ◌++◌}
use Rattle.axioms.specs.Expression.{ClassExpression, Iri}
use Rattle.axioms.specs.Numbering.{Statement}
use Rattle.fs_parser.specs.Tree.{Tree, Trees, Empty, Then}
use Rattle.fs_parser.specs.View.{tree_of}
use Rattle.fs_parser.specs.declared.tree.Tree as code
use Rattle.shapes.specs.TreeStatements.{meaning, statement_in}
use Rattle.program.specs.declared.version.Version.{Version}
pub use Rattle.shapes.specs.Meanings.{operand, iri_of, iris_of, some_values, class_of, classes_of, chain_of}

-- the statement of a tree, if it makes one
abbrev pub statement_of : Version → Tree → List Statement
statement_of version tree = meaning (statement_in version tree)

-- the statements of trees, in their order
abbrev pub statements : Version → Trees → List Statement
statements version Empty = []
statements version (Then first rest) = statement_of version first ++ statements version rest

-- the name and the class expression that a tree of the code is
abbrev pub iri_in : code.Tree → Iri
iri_in tree = iri_of (tree_of tree)

abbrev pub class_in : code.Tree → ClassExpression
class_in tree = class_of (tree_of tree)
