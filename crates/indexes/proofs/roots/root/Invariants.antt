use Rattle.std.proofs.Common.{◌<◌, ℕ, length}
use Rattle.indexes.specs.Roots.{IsRootOf, Shortens}
use Rattle.indexes.proofs.roots.root.Given as goal

abbrev pub invariant-down : goal.invariant-down
invariant-down l = record {
  shortens : Shortens l.fn.table l.table;
  within : l.place < length l.table;
  leads : (z : ℕ) → IsRootOf l.fn.table l.start z → IsRootOf l.table l.place z;
}

abbrev pub decreases-down : goal.decreases-down
decreases-down l = l.place
