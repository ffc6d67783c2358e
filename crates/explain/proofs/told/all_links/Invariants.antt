use Rattle.std.proofs.Common.{◌≡◌, ℕ, ◌<◌, length}
use Rattle.number_sets.specs.Pieces.{list_at}
use Rattle.explain.specs.Search.{AreToldOf, LeadsOver}
use Rattle.explain.proofs.told.all_links.Given as goal

abbrev pub invariant-loop-number : goal.invariant-loop-number
invariant-loop-number l = record {
  long : length l.links ≡ l.number;
  each : (r : ℕ) → r < l.number → AreToldOf (LeadsOver l.problem.forms) r (list_at l.links r);
}
