use Rattle.std.proofs.Common.{◌≡◌, ℕ, take, length, true}
use Rattle.std.specs.Prelude.{◌||◌}
use Rattle.number_sets.specs.Members.{has}
use Rattle.listed_model.specs.Members.{holds}
use Rattle.listed_model.proofs.paths.add_new.Given as goal

abbrev pub invariant-loop-number : goal.invariant-loop-number
invariant-loop-number l = record {
  len : length l.seen ≡ length l.fn.seen;
  seen : (y : ℕ) → has l.seen y ≡ true → holds l.found.items y ≡ true;
  added : (y : ℕ) → holds l.found.items y ≡ (holds l.fn.found.items y || holds (take l.number-index l.numbers) y);
}
