use Rattle.std.proofs.Common.{length, List, [], map, refl, subst, arith}
use Rattle.std.proofs.lemmas.List.{take_all}
use Rattle.std.proofs.lemmas.Option.{slice_get_read}
use Rattle.certificate.specs.declared.listed.PairRow.{PairRow}
use Rattle.certificate.specs.View.{pair_row_of}
use Rattle.cert_check.specs.Additions.{AddsPairs, IsListedPair, ListsPair}
use Rattle.cert_check.proofs.Additions.{pairs_step, no_pairs, some_none}
use Rattle.cert_check.proofs.listing.put_pairs.Goals as goal

pub loop-row-init : goal.loop-row-init
loop-row-init c = no_pairs (IsListedPair (map pair_row_of [])) c.args.interpretation.now (λ r x y. some_none (λ p. ListsPair p r x y))

pub loop-row-preserved : goal.loop-row-preserved
loop-row-preserved c =
    let rows = c.args.rows.now in
    let row = c.row-item.result in
    let there = slice_get_read rows (length rows) c.loop-row.row-index row refl c.loop-row-test.true c.row-item.is in
    pairs_step ListsPair pair_row_of rows c.loop-row.row-index row there
    c.args.interpretation.now c.loop-row.interpretation c.put_targets.new.interpretation c.loop-row.invariant c.in_ok-put_targets.ensures

pub returns : goal.returns
returns c =
    subst (λ (rows : List PairRow). AddsPairs (IsListedPair (map pair_row_of rows)) c.args.interpretation.now c.loop-row.interpretation)
    (take_all c.loop-row.row-index c.args.rows.now (omega arith)) c.loop-row.invariant
