use Rattle.std.proofs.Common.{◌≡◌, ◌≤◌, slice_get, slice_index, Some, ap, ◌∙◌, subst, arith}
use Rattle.std.proofs.lemmas.Option.{slice_get-get_or}
use Rattle.indexes.specs.Roots.{IsRootOf}
use Rattle.indexes.proofs.Paths.{at_root, goes_on, has_root, one_root, shortens, shortens_then}
use Rattle.indexes.proofs.roots.root.Goals as goal

pub down-preserved : goal.down-preserved
down-preserved c =
    let t = c.down.table in
    let x = c.down.place in
    let y = slice_index t x in
    let inv = c.down.invariant in
    let first : slice_get t x ≡ Some y = slice_get-get_or t x 0 inv.within in
    let low : y ≤ x = inv.shortens.down x y first in
    let second : slice_get t y ≡ Some (slice_index t y) = slice_get-get_or t y 0 (omega (arith, low, inv.within)) in
    let lower : slice_index t y ≤ y = inv.shortens.down y (slice_index t y) second in
    let once = shortens t x y (slice_index t y) inv.shortens.down first second in
    record {
      shortens = shortens_then inv.shortens once;
      within = omega (arith, once.long, inv.within, low, lower);
      leads = λ z r. goes_on t x y (slice_index t y) inv.shortens.down first second z (inv.leads z r);
    }

pub returns-clause-root : goal.returns-clause-root
returns-clause-root c =
    let t = c.down.table in
    let x = c.down.place in
    let inv = c.down.invariant in
    let is : slice_index t x ≡ x = omega (arith, c.down-test.false) in
    let here : IsRootOf t x x = at_root (slice_get-get_or t x 0 inv.within ∙ ap Some is) in
    let (z, r) = has_root c.args.table.now c.requires.table c.args.start c.requires.within in
    subst (IsRootOf t c.args.start) (one_root (inv.leads z r) here) (inv.shortens.roots c.args.start z r)
