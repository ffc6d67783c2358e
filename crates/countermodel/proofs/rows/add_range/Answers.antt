use Rattle.std.proofs.lemmas.Result.{IfOk-weaker}
use Rattle.countermodel.specs.Edges.{IsGiven}
use Rattle.countermodel.proofs.PairRanges.{range_added}
use Rattle.countermodel.proofs.rows.add_range.Goals as goal

pub returns : goal.returns
returns g c =
    IfOk-weaker c.add_lists.result _ _
    (λ row grouped. range_added g.S.RowSink.adds (IsGiven c.args.edges.now.closure.now c.args.edges.now.elements.now c.args.edges.now.facts.now) c.args.range grouped.pairs grouped.pairs c.args.rows.now c.add_lists.new.rows c.args.last row
    c.requires.forward
    (λ p. (
      λ h. (let within = (c.in_ok-keys.ensures.exact p).0 ((grouped.are p).0 h) in (within.0, within.1.0)),
      λ h. (grouped.are p).1 ((c.in_ok-keys.ensures.exact p).1 (h.0, (h.1, c.requires.there p h.0))),
    ))
    grouped.ascend (λ p. (λ h. h, λ h. h)) grouped.grouped)
    c.add_lists.ensures
