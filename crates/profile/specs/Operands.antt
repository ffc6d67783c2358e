-- Operands of what is stated.
use Rattle.std.specs.Prelude.{Option, Some, None}
use Rattle.shapes.specs.Shapes.{row}
use Rattle.shapes.specs.TreeStatements.{Stated}
use Rattle.profile.specs.ClassTrees.{AreOperands}

-- what is stated has the operands that its row takes
abbrev pub IsFitting : Option Stated → Type 0
IsFitting None = Unit {0}
IsFitting (Some stated) = AreOperands (row stated.0).1 stated.1
