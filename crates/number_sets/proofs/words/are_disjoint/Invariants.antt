use Rattle.std.proofs.Common.{◌≡◌, ℕ, ◌<◌, bit_and, get_or}
use Rattle.number_sets.proofs.words.are_disjoint.Given as goal

abbrev pub invariant-loop-i : goal.invariant-loop-i
invariant-loop-i l = (k : ℕ) → k < l.i → bit_and (get_or l.a k 0) (get_or l.b k 0) ≡ 0
