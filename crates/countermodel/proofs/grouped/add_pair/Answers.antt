use Rattle.std.proofs.Common.{ap, sym, subst}
use Rattle.countermodel.specs.LastRows.{AddsToLast}
use Rattle.countermodel.proofs.LastRow.{joins, row_at}
use Rattle.countermodel.proofs.grouped.add_pair.Goals as goal

pub returns-then-is_of : goal.returns-then-is_of
returns-then-is_of g c =
    let row = c.in-Some.row in
    subst (λ last. AddsToLast g.S.RowSink.adds c.args.pair c.args.rows.now last c.args.rows.now (record row { targets = c.push.new.self })) (sym c.in-Some.is)
    (joins g.S.RowSink.adds c.args.pair c.args.rows.now row (record row { targets = c.push.new.self }) (c.is_of.ensures.0 c.if-is_of.true) (ap (row_at row.property.0 row.source) c.in_ok-push.ensures.ok))
