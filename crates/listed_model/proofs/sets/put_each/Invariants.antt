use Rattle.std.proofs.Common.{◌≡◌, ◌<◌, ℕ, take, length}
use Rattle.std.specs.Prelude.{◌||◌}
use Rattle.number_sets.specs.Members.{has}
use Rattle.listed_model.specs.Members.{holds}
use Rattle.listed_model.proofs.sets.put_each.Given as goal

abbrev pub invariant-loop-number : goal.invariant-loop-number
invariant-loop-number l = record {
  len : length l.set ≡ length l.fn.set;
  members : (x : ℕ) → x < length l.fn.set → has l.set x ≡ (has l.fn.set x || holds (take l.number-index l.numbers) x);
}
