use Rattle.std.proofs.Common.{◌≡◌, bit_and, length, ◌-◌}
use Rattle.number_sets.proofs.Fours.{Made}
use Rattle.number_sets.proofs.words.intersect_fours.Given as goal

abbrev pub invariant-loop-a : goal.invariant-loop-a
invariant-loop-a l = Made bit_and l.fn.a l.b l.a l.i × (length l.a ≡ length l.fn.a)

abbrev pub decreases-loop-a : goal.decreases-loop-a
decreases-loop-a l = length l.a - l.i
