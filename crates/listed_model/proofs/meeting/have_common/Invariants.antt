use Rattle.std.proofs.Common.{◌≡◌, ◌+◌, ◌-◌, ◌≤◌, ◌<◌, ℕ, length, get_or}
use Rattle.listed_model.proofs.meeting.have_common.Given as goal

abbrev pub invariant-loop-i : goal.invariant-loop-i
invariant-loop-i l = record {
  first : l.i ≤ length l.first;
  second : l.j ≤ length l.second;
  passed : (k m : ℕ) → k < length l.first → m < length l.second → get_or l.first k 0 ≡ get_or l.second m 0 → (l.i ≤ k) × (l.j ≤ m);
}

abbrev pub decreases-loop-i : goal.decreases-loop-i
decreases-loop-i l = (length l.first - l.i) + (length l.second - l.j)
