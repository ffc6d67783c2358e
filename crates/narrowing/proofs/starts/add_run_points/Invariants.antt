use Rattle.std.proofs.Common.{◌≡◌, ◌++◌, ◌*◌, take}
use Rattle.narrowing.specs.Cut.{run_points}
use Rattle.narrowing.specs.Points.{within}
use Rattle.narrowing.proofs.starts.add_run_points.Given as goal

abbrev pub invariant-loop-run : goal.invariant-loop-run
invariant-loop-run l = l.starts.items ≡ l.fn.starts.items ++ within l.domain (run_points (take (2 * l.run) l.ends))
