use Rattle.std.proofs.Common.{◌+◌, ◌∷◌, [], suc, get_or, take}
use Rattle.narrowing.specs.Cut.{single_points}
use Rattle.narrowing.proofs.Gathering.{gathered_more, singles_more}
use Rattle.narrowing.proofs.starts.add_single_points.Goals as goal

pub loop-element-preserved : goal.loop-element-preserved
loop-element-preserved c =
    let xs = c.args.elements.now in
    let i = c.loop-element.element-index in
    let x = get_or xs i 0 in
    gathered_more c.args.domain c.args.starts.now.items c.loop-element.starts.items c.add_run.new.starts.items (single_points (take i xs)) (x ∷ suc x ∷ []) (single_points (take (i + 1) xs))
    c.loop-element.invariant c.in_ok-add_run.ensures (singles_more xs i 0 c.loop-element-test.true)
