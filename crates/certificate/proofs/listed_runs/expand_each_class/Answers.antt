use Rattle.std.proofs.Common.{◌≤◌, ◌<◌, length, map, ap, arith}
use Rattle.certificate.specs.Held.{held_class}
use Rattle.certificate.specs.View.{class_row_of}
use Rattle.certificate.proofs.Stepwise.{seen_more, seen_back}
use Rattle.certificate.proofs.listed_runs.expand_each_class.Goals as goal

pub loop-row-preserved : goal.loop-row-preserved
loop-row-preserved c =
    let below : c.loop-row.row-index < length c.loop-row.row-items = omega arith in
    seen_more class_row_of held_class c.loop-row.row-index (map class_row_of c.args.rows.now.items) c.loop-row.row-items c.expand_class.new.row c.row-item.result below c.loop-row.invariant c.in_ok-expand_class.ensures

pub returns : goal.returns
returns c =
    let old = c.args.rows.now in
    let end : length old.items ≤ c.loop-row.row-index = omega (arith, ap length c.deref_mut-row-items.ensures.value) in
    seen_back class_row_of held_class old.len c.loop-row.row-index old.items c.loop-row.row-items old.ok.0 end c.loop-row.invariant
