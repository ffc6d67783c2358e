use Rattle.std.proofs.Common.{◌≡◌, ◌<◌, ℕ, length, take}
use Rattle.number_sets.specs.Members.{has}
use Rattle.taxonomy.specs.Superclasses.{is_among}
use Rattle.taxonomy.proofs.groups.set_of.Given as goal

abbrev pub invariant-loop-number : goal.invariant-loop-number
invariant-loop-number l = record {
  long : length l.set ≡ l.n;
  each : (k : ℕ) → k < l.n → has l.set k ≡ is_among (take l.number-index l.numbers) k;
}
