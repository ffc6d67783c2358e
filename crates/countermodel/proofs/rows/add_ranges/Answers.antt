use Rattle.std.proofs.lemmas.Result.{IfOk-weaker}
use Rattle.countermodel.specs.Edges.{IsGiven}
use Rattle.countermodel.proofs.PairRanges.{none_below}
use Rattle.countermodel.proofs.rows.add_ranges.Goals.{then-comes_before+in_ok-last, else-comes_before}
use Rattle.countermodel.proofs.rows.add_ranges.Goals as goal

pub loop-cut-init : goal.loop-cut-init
loop-cut-init g c = none_below g.S.RowSink.adds (IsGiven c.args.edges.now.closure.now c.args.edges.now.elements.now c.args.edges.now.facts.now) c.args.rows.now (g.met.S.RowSink.nothing c.args.rows.now)

pub loop-cut-preserved : goal.loop-cut-preserved
loop-cut-preserved g c = elim c.if-comes_before.branch [
  | then-comes_before+in_ok-last w ↦ rw (w.rows-is, w.from-is, w.last-is) (w.in_ok-last.ensures c.args.rows.now c.loop-cut.invariant)
  | else-comes_before w ↦ rw (w.rows-is, w.from-is, w.last-is) c.loop-cut.invariant
]

pub returns : goal.returns
returns g c = IfOk-weaker c.add_range-2.result _ _ (λ row adds. adds c.args.rows.now c.loop-cut.invariant) c.add_range-2.ensures
