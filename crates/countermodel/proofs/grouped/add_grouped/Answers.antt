use Rattle.std.proofs.Common.{◌≡◌, ◌∙◌, get_or, map, sym, subst, arith}
use Rattle.std.proofs.lemmas.List.{get_or-map, length-map}
use Rattle.countermodel.specs.Keys.{pair_at}
use Rattle.countermodel.specs.LastRows.{AddsToLast}
use Rattle.countermodel.specs.declared.pair.Pair.{Pair}
use Rattle.countermodel.proofs.GroupedRows.{all_behind, more_behind, nothing_behind}
use Rattle.countermodel.proofs.grouped.add_grouped.Goals as goal

pub loop-key-init : goal.loop-key-init
loop-key-init g c start earlier ascend h = nothing_behind g.S.RowSink.adds start earlier (map (pair_at c.args.property.0) c.args.keys.now) c.args.rows.now c.args.last h

pub loop-key-preserved : goal.loop-key-preserved
loop-key-preserved g c start earlier ascend h =
    let keys = c.args.keys.now in
    let pairs = map (pair_at c.args.property.0) keys in
    let k = c.loop-key.key-index in
    let same : get_or pairs k (pair_at c.args.property.0 0) ≡ c.pair_with-pair.result = get_or-map (pair_at c.args.property.0) keys k 0 (pair_at c.args.property.0 0) c.loop-key-test.true ∙ sym c.pair_with-pair.ensures in
    more_behind g.S.RowSink.adds start earlier pairs k (pair_at c.args.property.0 0) c.loop-key.rows c.add_pair.new.rows c.loop-key.last c.in_ok-add_pair.field-0 (omega (arith, c.loop-key-test.true, length-map keys (pair_at c.args.property.0))) ascend
    (subst (λ (p : Pair). AddsToLast g.S.RowSink.adds p c.loop-key.rows c.loop-key.last c.add_pair.new.rows c.in_ok-add_pair.field-0) (sym same) c.in_ok-add_pair.ensures) (c.loop-key.invariant start earlier ascend h)

pub returns : goal.returns
returns g c start earlier ascend h =
    all_behind g.S.RowSink.adds start earlier (map (pair_at c.args.property.0) c.args.keys.now) c.loop-key.key-index c.loop-key.rows c.loop-key.last
    (omega (arith, c.loop-key-test.false, length-map c.args.keys.now (pair_at c.args.property.0))) (c.loop-key.invariant start earlier ascend h)
