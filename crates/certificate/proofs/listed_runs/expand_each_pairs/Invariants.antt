use Rattle.std.proofs.Common.{◌≡◌, map}
use Rattle.certificate.specs.Held.{held_pairs}
use Rattle.certificate.specs.View.{pair_row_of}
use Rattle.certificate.proofs.Stepwise.{mapped_until}
use Rattle.certificate.proofs.listed_runs.expand_each_pairs.Given as goal

abbrev pub invariant-loop-row : goal.invariant-loop-row
invariant-loop-row l = map pair_row_of l.row-items ≡ mapped_until held_pairs l.row-index (map pair_row_of l.fn.rows.items)
