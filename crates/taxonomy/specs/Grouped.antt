-- Classes in groups.
use Rattle.std.specs.Prelude.{List, Bool}
use Rattle.axioms.specs.Expression.{Iri}

-- the names of classes, and for each class, by number, the row of those that it lies below
pub record Grouped : Type 0 where
  pub names : List Iri
  pub rows : List (List Bool)
