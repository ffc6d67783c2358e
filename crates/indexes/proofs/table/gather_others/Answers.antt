use Rattle.std.proofs.Common.{◌≡◌, ◌<◌, ℕ, length, get_or, arith, ap, ◌∙◌}
use Rattle.std.proofs.lemmas.List.{get_or_default}
use Rattle.std.proofs.lemmas.List.Filters.{FiltersInPlace-more_set, FiltersInPlace-more_no}
use Rattle.indexes.proofs.Tables.{other, not_other}
use Rattle.indexes.proofs.table.gather_others.Goals.{then-other-number, else-other-number}
use Rattle.indexes.proofs.table.gather_others.Goals as goal

pub loop-place-preserved : goal.loop-place-preserved
loop-place-preserved c =
    let here : ℕ = get_or c.as_slice.result.now c.loop-place.place 0 in
    let low : c.loop-place.place < length c.loop-place.list = omega (arith, c.loop-place-test.true, c.len-place-end.ensures, c.loop-place.invariant.long) in
    let read : here ≡ get_or c.loop-place.list c.loop-place.place here = ap (λ ns. get_or ns c.loop-place.place 0) c.as_slice.ensures ∙ get_or_default c.loop-place.list c.loop-place.place 0 here low in
    elim c.if-other-number.branch [
      | then-other-number w ↦ rw (w.list-is, w.others-is, w.set.ensures) (FiltersInPlace-more_set c.loop-place.invariant low (other c.args.number here w.if-other-number.true) read)
      | else-other-number w ↦ rw (w.list-is, w.others-is) (FiltersInPlace-more_no c.loop-place.invariant low (not_other c.args.number here w.if-other-number.false) read)
    ]
