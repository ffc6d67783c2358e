use Rattle.std.proofs.Common.{◌≡◌, map}
use Rattle.certificate.specs.View.{class_row_of}
use Rattle.narrowing.specs.Renumbered.{renumbered_class}
use Rattle.certificate.proofs.Stepwise.{mapped_until}
use Rattle.narrowing.proofs.renumbering.renumber_classes.Given as goal

abbrev pub invariant-loop-row : goal.invariant-loop-row
invariant-loop-row g l = map class_row_of l.row-items ≡ mapped_until (renumbered_class (g.N.Numbering.number l.numbering)) l.row-index (map class_row_of l.fn.rows.items)
