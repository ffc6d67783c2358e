use Rattle.std.proofs.Common.{◌≡◌, ℕ, take, length}
use Rattle.std.specs.Prelude.{◌||◌}
use Rattle.number_sets.specs.Members.{has}
use Rattle.listed_model.specs.Members.{holds}
use Rattle.listed_model.proofs.wide.put_all.Given as goal

abbrev pub invariant-loop-number : goal.invariant-loop-number
invariant-loop-number l = record {
  len : length l.set ≡ length l.fn.set;
  members : (y : ℕ) → has l.set y ≡ (has l.fn.set y || holds (take l.number-index l.numbers) y);
}
