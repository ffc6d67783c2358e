use Rattle.std.proofs.Common.{◌≡◌, bit_or, length, ◌-◌}
use Rattle.number_sets.proofs.Fours.{Made}
use Rattle.number_sets.proofs.words.union_fours.Given as goal

abbrev pub invariant-loop-a : goal.invariant-loop-a
invariant-loop-a l = Made bit_or l.fn.a l.b l.a l.i × (length l.a ≡ length l.fn.a)

abbrev pub decreases-loop-a : goal.decreases-loop-a
decreases-loop-a l = length l.a - l.i
