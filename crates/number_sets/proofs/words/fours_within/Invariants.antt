use Rattle.std.proofs.Common.{◌≡◌, ℕ, ◌<◌, ◌≤◌, ◌-◌, bit_and, get_or, length}
use Rattle.number_sets.proofs.words.fours_within.Given as goal

abbrev pub invariant-loop-i : goal.invariant-loop-i
invariant-loop-i l = record {
  within : l.i ≤ length l.a;
  before : (k : ℕ) → k < l.i → bit_and (get_or l.a k 0) (get_or l.b k 0) ≡ get_or l.a k 0;
}

abbrev pub decreases-loop-i : goal.decreases-loop-i
decreases-loop-i l = length l.a - l.i
