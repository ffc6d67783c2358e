use Rattle.std.proofs.Common.{◌≡◌, ◌%◌, ◌≤◌, ◌-◌, count_ones, map, take}
use Rattle.std.specs.Simd.Lanes.{sum_l}
use Rattle.number_sets.proofs.words.count_fours.Given as goal

abbrev pub invariant-loop-i : goal.invariant-loop-i
invariant-loop-i l = record {
  sum : l.count ≡ sum_l (map count_ones (take l.i l.words));
  fours : l.i % 4 ≡ 0;
  within : l.i ≤ l.to;
}

abbrev pub decreases-loop-i : goal.decreases-loop-i
decreases-loop-i l = l.to - l.i
