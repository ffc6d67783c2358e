-- What trees mean as operands: names, class expressions, and chains of properties (OWL 2 Structural Specification, sections
-- 8.1.1, 8.2.1 and 9.2).
use Rattle.std.specs.Prelude.{ℕ, zero, suc, List, [], ◌∷◌, if◌then◌else◌, codes}
use Rattle.std.specs.Str.{bytes_eq}
use Rattle.axioms.specs.Expression.{Iri, ClassExpression, Named, SomeValues}
use Rattle.axioms.specs.Ontology.{intersection}
use Rattle.fs_parser.specs.Tree.{Tree, Name, Form, Trees, Empty, Then}

-- the operand of that number, from 0
abbrev pub operand : Trees → ℕ → Tree
operand Empty n = Name 0 []
operand (Then first rest) zero = first
operand (Then first rest) (suc n) = operand rest n

abbrev pub iri_of : Tree → Iri
iri_of (Name at iri) = iri
iri_of _ = []

abbrev pub iris_of : Trees → List Iri
iris_of Empty = []
iris_of (Then first rest) = iri_of first ∷ iris_of rest

-- the class expression of two operands, of which the first is a property (section 8.2.1)
abbrev pub some_values : Trees → List ClassExpression → ClassExpression
some_values trees (r ∷ c ∷ []) = SomeValues (iri_of (operand trees 0)) c
some_values trees _ = Named []

abbrev mutual
  pub class_of : Tree → ClassExpression
  class_of (Name at iri) = Named iri
  class_of (Form at keyword trees) =
      if bytes_eq keyword (codes "ObjectIntersectionOf") then intersection (classes_of trees) else some_values trees (classes_of trees)
  class_of _ = Named []

  pub classes_of : Trees → List ClassExpression
  classes_of Empty = []
  classes_of (Then first rest) = class_of first ∷ classes_of rest

-- a property, or the properties of a chain
abbrev pub chain_of : Tree → List Iri
chain_of (Name at iri) = iri ∷ []
chain_of (Form at keyword trees) = iris_of trees
chain_of _ = []
