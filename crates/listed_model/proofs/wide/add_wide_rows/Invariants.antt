use Rattle.std.proofs.Common.{map}
use Rattle.certificate.specs.View.{pair_row_of}
use Rattle.listed_model.specs.WideRows.{AreWide}
use Rattle.listed_model.proofs.wide.add_wide_rows.Given as goal

abbrev pub invariant-loop-row : goal.invariant-loop-row
invariant-loop-row l = AreWide (map pair_row_of l.rows) l.fn.bound l.wide.items
