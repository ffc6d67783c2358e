use Rattle.std.proofs.Common.{◌≡◌, map}
use Rattle.certificate.specs.Held.{held_class}
use Rattle.certificate.specs.View.{class_row_of}
use Rattle.certificate.proofs.Stepwise.{mapped_until}
use Rattle.certificate.proofs.listed_runs.expand_each_class.Given as goal

abbrev pub invariant-loop-row : goal.invariant-loop-row
invariant-loop-row l = map class_row_of l.row-items ≡ mapped_until held_class l.row-index (map class_row_of l.fn.rows.items)
