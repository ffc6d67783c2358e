use Rattle.std.proofs.Common.{◌≡◌, ℕ, ◌<◌, length}
use Rattle.number_sets.specs.Pieces.{list_at}
use Rattle.explain.specs.Search.{AreToldOf, LeadsUp}
use Rattle.explain.proofs.told.all_told.Given as goal

abbrev pub invariant-loop-number : goal.invariant-loop-number
invariant-loop-number l = record {
  long : length l.told ≡ l.number;
  each : (r : ℕ) → r < l.number → AreToldOf (LeadsUp l.problem.forms) r (list_at l.told r);
}
