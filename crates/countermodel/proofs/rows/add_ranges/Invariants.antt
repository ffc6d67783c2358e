use Rattle.std.proofs.Common.{Some}
use Rattle.countermodel.specs.Edges.{IsGiven}
use Rattle.countermodel.specs.Ranges.{HasRowsBelow}
use Rattle.countermodel.proofs.rows.add_ranges.Given as goal

abbrev pub invariant-loop-cut : goal.invariant-loop-cut
invariant-loop-cut g l = HasRowsBelow g.S.RowSink.adds (IsGiven l.edges.closure.now l.edges.elements.now l.edges.facts.now) l.fn.rows (Some l.from) l.rows l.last
