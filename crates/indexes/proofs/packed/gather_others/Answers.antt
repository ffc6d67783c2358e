use Rattle.std.proofs.Common.{◌≡◌, ◌<◌, length, get_or, arith}
use Rattle.std.proofs.lemmas.List.{get_or_default}
use Rattle.std.proofs.lemmas.List.Filters.{FiltersInPlace-more_set, FiltersInPlace-more_no}
use Rattle.indexes.proofs.Tables.{other, not_other}
use Rattle.indexes.proofs.packed.gather_others.Goals.{then-other-number, else-other-number}
use Rattle.indexes.proofs.packed.gather_others.Goals as goal

pub loop-place-preserved : goal.loop-place-preserved
loop-place-preserved c =
    let list = c.loop-place.list in
    let here = get_or list c.loop-place.place 0 in
    let low : c.loop-place.place < length list = omega (arith, c.loop-place-test.true, c.loop-place.auto.list) in
    let read : here ≡ get_or list c.loop-place.place here = get_or_default list c.loop-place.place 0 here low in
    elim c.if-other-number.branch [
      | then-other-number w ↦ rw (w.list-is, w.others-is) (FiltersInPlace-more_set c.loop-place.invariant low (other c.args.number here w.if-other-number.true) read)
      | else-other-number w ↦ rw (w.list-is, w.others-is) (FiltersInPlace-more_no c.loop-place.invariant low (not_other c.args.number here w.if-other-number.false) read)
    ]
