use Rattle.std.proofs.Common.{◌≡◌, ◌<◌, ◌≤◌, ℕ, false, length}
use Rattle.number_sets.specs.Members.{has}
use Rattle.taxonomy.specs.Relation.{is_listed}
use Rattle.taxonomy.specs.Texts.{nothing_class}
use Rattle.taxonomy.proofs.collecting.below_nothing.Given as goal

abbrev pub invariant-loop-c : goal.invariant-loop-c
invariant-loop-c l = record {
  long : length l.below ≡ length l.lists;
  each : (k : ℕ) → k < l.c → has l.below k ≡ is_listed l.lists k nothing_class;
  rest : (k : ℕ) → l.c ≤ k → has l.below k ≡ false;
}
