use Rattle.std.proofs.Common.{◌≡◌, ◌++◌, take}
use Rattle.narrowing.specs.Cut.{single_points}
use Rattle.narrowing.specs.Points.{within}
use Rattle.narrowing.proofs.starts.add_single_points.Given as goal

abbrev pub invariant-loop-element : goal.invariant-loop-element
invariant-loop-element l = l.starts.items ≡ l.fn.starts.items ++ within l.domain (single_points (take l.element-index l.elements))
