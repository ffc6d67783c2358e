use Rattle.countermodel.specs.LastRows.{GroupsAll}
use Rattle.countermodel.proofs.KeyedRows.{IsInFirst}
use Rattle.countermodel.proofs.rows.add_lists.Given as goal

abbrev pub invariant-loop-number : goal.invariant-loop-number
invariant-loop-number g l = GroupsAll g.S.RowSink.adds (IsInFirst l.keys l.number) l.fn.rows l.fn.last l.rows l.last
