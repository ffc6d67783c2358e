-- What a relation of the code tells.
use Rattle.std.specs.Prelude.{List, Bool}
use Rattle.taxonomy.specs.Relation.{IsSquare}
use Rattle.taxonomy.specs.Superclasses.{AreSets, rows_of}
use Rattle.taxonomy.specs.declared.relation.Held.{Held}
use Rattle.taxonomy.specs.declared.relation.Held.TheVariants.{Rows, Lists}

-- the rows that it holds, or those of its lists
abbrev pub held_rows : Held → List (List Bool)
held_rows (Rows rows) = rows.items
held_rows (Lists lists) = rows_of lists

-- rows of all classes, or lists without repetition
abbrev pub IsHeld : Held → Type 0
IsHeld (Rows rows) = IsSquare rows.items
IsHeld (Lists lists) = AreSets lists
