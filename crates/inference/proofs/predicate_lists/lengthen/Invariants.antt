use Rattle.std.proofs.Common.{◌≡◌, ℕ, ◌+◌, ◌-◌, length, get_or}
use Rattle.inference.proofs.predicate_lists.lengthen.Given as goal

-- each end is what it was
abbrev pub invariant-loop-ends : goal.invariant-loop-ends
invariant-loop-ends l = (i : ℕ) → get_or l.ends.items i 0 ≡ get_or l.fn.ends.items i 0

abbrev pub decreases-loop-ends : goal.decreases-loop-ends
decreases-loop-ends l = l.place + 1 - length l.ends.items
