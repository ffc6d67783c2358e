use Rattle.std.proofs.Common.{◌≡◌, map}
use Rattle.certificate.specs.View.{pair_row_of}
use Rattle.narrowing.specs.Renumbered.{renumbered_pairs}
use Rattle.certificate.proofs.Stepwise.{mapped_until}
use Rattle.narrowing.proofs.renumbering.renumber_pairs.Given as goal

abbrev pub invariant-loop-row : goal.invariant-loop-row
invariant-loop-row g l = map pair_row_of l.row-items ≡ mapped_until (renumbered_pairs (g.N.Numbering.number l.numbering)) l.row-index (map pair_row_of l.fn.rows.items)
