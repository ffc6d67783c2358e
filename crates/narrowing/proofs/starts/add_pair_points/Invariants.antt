use Rattle.std.proofs.Common.{◌≡◌, ◌++◌, take}
use Rattle.narrowing.specs.Points.{within, pair_points}
use Rattle.narrowing.proofs.starts.add_pair_points.Given as goal

abbrev pub invariant-loop-row : goal.invariant-loop-row
invariant-loop-row l = l.starts.items ≡ l.fn.starts.items ++ within l.domain (pair_points (take l.row-index l.rows))
