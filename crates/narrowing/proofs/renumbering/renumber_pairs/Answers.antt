use Rattle.std.proofs.Common.{◌≤◌, ◌<◌, length, map, ap, arith}
use Rattle.certificate.specs.View.{pair_row_of}
use Rattle.narrowing.specs.Renumbered.{renumbered_pairs}
use Rattle.certificate.proofs.Stepwise.{seen_more, seen_back}
use Rattle.narrowing.proofs.renumbering.renumber_pairs.Goals as goal

pub loop-row-preserved : goal.loop-row-preserved
loop-row-preserved g c =
    let below : c.loop-row.row-index < length c.loop-row.row-items = omega arith in
    seen_more pair_row_of (renumbered_pairs (g.N.Numbering.number c.args.numbering.now)) c.loop-row.row-index (map pair_row_of c.args.rows.now.items) c.loop-row.row-items c.renumber_pair.new.row c.row-item.result below c.loop-row.invariant c.renumber_pair.ensures

pub returns : goal.returns
returns g c =
    let old = c.args.rows.now in
    let end : length old.items ≤ c.loop-row.row-index = omega (arith, ap length c.deref_mut-row-items.ensures.value) in
    seen_back pair_row_of (renumbered_pairs (g.N.Numbering.number c.args.numbering.now)) old.len c.loop-row.row-index old.items c.loop-row.row-items old.ok.0 end c.loop-row.invariant
