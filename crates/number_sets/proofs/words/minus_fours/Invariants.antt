use Rattle.std.proofs.Common.{◌≡◌, length, ◌-◌}
use Rattle.number_sets.specs.Words.{without_bits}
use Rattle.number_sets.proofs.Fours.{Made}
use Rattle.number_sets.proofs.words.minus_fours.Given as goal

abbrev pub invariant-loop-a : goal.invariant-loop-a
invariant-loop-a l = Made without_bits l.fn.a l.b l.a l.i × (length l.a ≡ length l.fn.a)

abbrev pub decreases-loop-a : goal.decreases-loop-a
decreases-loop-a l = length l.a - l.i
