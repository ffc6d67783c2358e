use Rattle.std.proofs.Common.{◌≡◌, length}
use Rattle.indexes.specs.Roots.{IsAlone}
use Rattle.indexes.proofs.same_individuals.alone.Given as goal

abbrev pub invariant-loop-number : goal.invariant-loop-number
invariant-loop-number l = record {
  long : length l.table.items ≡ l.number;
  each : IsAlone l.table.items;
}
