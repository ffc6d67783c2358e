use Rattle.std.proofs.Common.{◌≡◌, map, take}
use Rattle.certificate.specs.View.{class_row_of}
use Rattle.narrowing.proofs.copies.copy_of_classes.Given as goal

abbrev pub invariant-loop-row : goal.invariant-loop-row
invariant-loop-row l = map class_row_of l.copy.items ≡ map class_row_of (take l.row-index l.rows)
