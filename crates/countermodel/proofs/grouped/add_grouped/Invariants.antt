use Rattle.std.proofs.Common.{map}
use Rattle.countermodel.specs.Keys.{pair_at}
use Rattle.countermodel.proofs.GroupedRows.{GroupsSoFar}
use Rattle.countermodel.proofs.grouped.add_grouped.Given as goal

abbrev pub invariant-loop-key : goal.invariant-loop-key
invariant-loop-key g l = GroupsSoFar g.S.RowSink.adds (map (pair_at l.property.0) l.keys) l.key-index l.fn.rows l.fn.last l.rows l.last
