use Rattle.std.proofs.Common.{◌≡◌, map, take}
use Rattle.certificate.specs.View.{pair_row_of}
use Rattle.narrowing.proofs.copies.copy_of_pairs.Given as goal

abbrev pub invariant-loop-row : goal.invariant-loop-row
invariant-loop-row l = map pair_row_of l.copy.items ≡ map pair_row_of (take l.row-index l.rows)
