use Rattle.std.proofs.Common.{◌≡◌, count_ones, map, take}
use Rattle.std.specs.Simd.Lanes.{sum_l}
use Rattle.number_sets.proofs.words.count_words.Given as goal

abbrev pub invariant-loop-i : goal.invariant-loop-i
invariant-loop-i l = l.count ≡ sum_l (map count_ones (take l.i l.words))
