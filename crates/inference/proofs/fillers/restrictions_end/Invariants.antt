use Rattle.std.proofs.Common.{ℕ, ◌<◌}
use Rattle.indexes.specs.declared.keys.Key.TheVariants.{Whole}
use Rattle.indexes.specs.FormsUnderKeys.{IsUnder}
use Rattle.indexes.specs.Keys.{by_restricted}
use Rattle.inference.proofs.fillers.restrictions_end.Given as goal

abbrev pub invariant-loop-number : goal.invariant-loop-number
invariant-loop-number l = (r n : ℕ) → n < l.number → IsUnder by_restricted l.forms (Whole r) n → r < l.end
