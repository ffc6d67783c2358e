use Rattle.std.proofs.lemmas.Result.{IfOk-weaker}
use Rattle.indexes.proofs.Counting.{few_counted}
use Rattle.indexes.proofs.Filling.{all_filled, all_full, form_filled, has_places, none_filled}
use Rattle.indexes.proofs.Indexing.{all_indexed, all_shared, all_whole}
use Rattle.indexes.proofs.Listing.{all_ascend, all_listed}
use Rattle.indexes.proofs.form_index.listed.Goals as goal

pub room_for-requires : goal.room_for-requires
room_for-requires c = few_counted c.args.forms.now c.in_ok-counts.counts c.requires c.in_ok-counts.ensures

pub loop-number-init : goal.loop-number-init
loop-number-init c = none_filled c.args.forms.now c.in_ok-counts.counts c.in_ok-filling.filling c.requires c.in_ok-counts.ensures c.in_ok-filling.ensures

pub place-requires : goal.place-requires
place-requires c = has_places c.args.forms.now c.loop-number.number c.at.result c.at.ensures c.loop-number.filling c.loop-number.invariant

pub loop-number-preserved : goal.loop-number-preserved
loop-number-preserved c = form_filled c.args.forms.now c.loop-number.number c.at.result c.at.ensures c.loop-number.filling c.place.new.filling c.loop-number.invariant c.place.ensures

pub filled-requires : goal.filled-requires
filled-requires c =
    all_full c.args.forms.now c.loop-number.filling
    (all_filled c.args.forms.now c.loop-number.number c.len-number-end.result c.loop-number.filling c.loop-number.auto.number-end c.loop-number-test.false c.len-number-end.ensures c.loop-number.invariant)

pub returns-clause-index : goal.returns-clause-index
returns-clause-index c =
    let forms = c.args.forms.now in
    let full = all_filled forms c.loop-number.number c.len-number-end.result c.loop-number.filling c.loop-number.auto.number-end c.loop-number-test.false c.len-number-end.ensures c.loop-number.invariant in
    let index = all_indexed forms c.filled.result c.put_in_order.result
    (all_listed forms c.loop-number.filling c.filled.result full c.filled.ensures)
    (all_ascend c.loop-number.filling c.filled.result (all_full forms c.loop-number.filling full) c.filled.ensures)
    c.put_in_order.ensures in
    IfOk-weaker c.shared.result _ _ (λ shared are. all_shared forms c.put_in_order.result shared index are) c.shared.ensures

pub returns-clause-whole : goal.returns-clause-whole
returns-clause-whole c = IfOk-weaker c.shared.result _ _ (λ shared are. all_whole c.put_in_order.result shared are) c.shared.ensures
