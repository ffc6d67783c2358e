use Rattle.countermodel.proofs.FirstRows.{HasFirstRows}
use Rattle.countermodel.proofs.class_rows.add_rows_of.Given as goal

abbrev pub invariant-loop-number : goal.invariant-loop-number
invariant-loop-number g l = HasFirstRows g.S.RowSink.adds l.lists l.number l.fn.rows l.rows
