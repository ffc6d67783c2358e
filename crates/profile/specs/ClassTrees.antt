-- Trees that are class expressions: names, intersections of two or more different expressions, and things with a successor.
use Rattle.std.specs.Prelude.{◌≤◌, ◌∷◌, length, Bool, true, false, codes}
use Rattle.std.specs.Str.{bytes_eq}
use Rattle.axioms.specs.WellFormedness.{AreDistinct}
use Rattle.fs_parser.specs.Tree.{Tree, Trees, Name, Form, Empty, Then}
use Rattle.shapes.specs.Shapes.{Operands, Each, Many}
use Rattle.shapes.specs.declared.expected.Expected.{Expected}
use Rattle.shapes.specs.declared.expected.Expected.TheVariants.{ClassExpression, Individual, Property, PropertyOrChain}
use Rattle.profile.specs.Statements.{chain_of, classes_of, iris_of}

abbrev pub IsOneOf : Bool → Type 0 → Type 0 → Type 0
IsOneOf true P Q = P
IsOneOf false P Q = Q

-- two or more names, which are different
pub record AreManyDistinctNames (trees : Trees) : Type 0 where
  pub many : 2 ≤ length (iris_of trees)
  pub distinct : AreDistinct (iris_of trees)

-- one property or more
abbrev pub IsChain : Tree → Type 0
IsChain tree = 1 ≤ length (chain_of tree)

-- two or more trees, which are different expressions
pub record AreManyDistinct (trees : Trees) : Type 0 where
  pub many : 2 ≤ length (classes_of trees)
  pub distinct : AreDistinct (classes_of trees)

abbrev mutual
  pub IsClassTree : Tree → Type 0
  IsClassTree (Name at iri) = Unit {0}
  IsClassTree (Form at keyword trees) = IsOneOf (bytes_eq keyword (codes "ObjectIntersectionOf")) (AreClassTrees trees × AreManyDistinct trees) (AreSomeTrees trees)
  IsClassTree _ = ⊥

  pub AreClassTrees : Trees → Type 0
  AreClassTrees Empty = Unit {0}
  AreClassTrees (Then first rest) = IsClassTree first × AreClassTrees rest

  -- two trees, of which the second is a class expression
  pub AreSomeTrees : Trees → Type 0
  AreSomeTrees (Then property (Then filler Empty)) = IsClassTree filler
  AreSomeTrees _ = ⊥

-- ---- operands

-- what is expected of one; of a name nothing, since each tree has an IRI, if an empty one
abbrev pub IsOperand : Expected → Tree → Type 0
IsOperand ClassExpression tree = IsClassTree tree
IsOperand PropertyOrChain tree = IsChain tree
IsOperand _ tree = Unit {0}

abbrev pub AreManyOperands : Expected → Trees → Type 0
AreManyOperands ClassExpression trees = AreClassTrees trees × AreManyDistinct trees
AreManyOperands Property trees = AreManyDistinctNames trees
AreManyOperands Individual trees = AreManyDistinctNames trees
AreManyOperands _ trees = Unit {0}

-- the trees are what a row of the table expects of operands that are to be different, or of each in turn
abbrev pub AreOperands : Operands → Trees → Type 0
AreOperands (Each (expected ∷ later)) (Then first rest) = IsOperand expected first × AreOperands (Each later) rest
AreOperands (Each _) trees = Unit {0}
AreOperands (Many true expected) trees = AreManyOperands expected trees
AreOperands (Many false expected) trees = Unit {0}
