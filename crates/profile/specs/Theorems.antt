-- What is proved of ontologies that grow by statements.
use Rattle.std.specs.Prelude.{◌≡◌, List, [], ◌∷◌, ◌++◌}
use Rattle.std.specs.List.{filter_map}
use Rattle.axioms.specs.Expression.{ClassExpression}
use Rattle.axioms.specs.Ontology.{Ontology, trees, axiom_trees}
use Rattle.axioms.specs.Numbering.{Statement, IsOntologyOf, first_places, same_expression, logical_axiom, statement_expressions, statement_properties, statement_individuals}
use Rattle.profile.specs.Additions.{Grows, IsPrefix}

-- first places of first places and more are those of all
abbrev pub FirstPlacesJoin : Type 0
FirstPlacesJoin = (xs ys : List ClassExpression) → first_places same_expression (first_places same_expression xs ++ ys) ≡ first_places same_expression (xs ++ ys)

-- to add what a statement brings is to read one statement more
abbrev pub OneMoreStatement : Type 0
OneMoreStatement =
    (statements : List Statement) (statement : Statement) (o p : Ontology) → IsOntologyOf statements o →
    Grows (statement_expressions statement) (statement_properties statement) (statement_individuals statement) (filter_map logical_axiom (statement ∷ [])) o p →
    IsOntologyOf (statements ++ statement ∷ []) p

-- names, expressions and what axioms say have the same numbers in the second ontology
pub record ArePrefixes (o p : Ontology) : Type 0 where
  pub expressions : IsPrefix (trees o) (trees p)
  pub classes : IsPrefix o.names.classes p.names.classes
  pub properties : IsPrefix o.names.properties p.names.properties
  pub individuals : IsPrefix o.names.individuals p.names.individuals
  pub axioms : IsPrefix (axiom_trees o) (axiom_trees p)

-- statements that are added at the end change no number
abbrev pub AdditionsChangeNoNumber : Type 0
AdditionsChangeNoNumber = (statements more : List Statement) (o p : Ontology) → IsOntologyOf statements o → IsOntologyOf (statements ++ more) p → ArePrefixes o p
