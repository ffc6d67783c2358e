use Rattle.std.proofs.Common.{slice_get}
use Rattle.std.proofs.lemmas.Option.{slice_get-get_or}
use Rattle.indexes.specs.Disjoint.{operand_key}
use Rattle.indexes.proofs.Counting.{counted_more, none_counted}
use Rattle.indexes.proofs.disjoint.places_counted.Goals as goal

pub loop-place-init : goal.loop-place-init
loop-place-init c = none_counted operand_key (slice_get c.args.operands.now) c.new-counts.result c.new-counts.ensures.wholes c.new-counts.ensures.partials

pub loop-place-preserved : goal.loop-place-preserved
loop-place-preserved c =
    let operands = c.args.operands.now in
    counted_more operand_key (slice_get operands) c.loop-place.place _ (slice_get-get_or operands c.loop-place.place _ c.loop-place-test.true) c.loop-place.counts c.add.new.self c.loop-place.invariant c.in_ok-add.ensures
