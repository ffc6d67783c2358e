use Rattle.std.proofs.Common.{◌≡◌, ℕ, ◌-◌, ◌<◌, ◌≤◌, length, get_or}
use Rattle.facts.proofs.slots.first_free.Given as goal

-- what was passed is in use
abbrev pub invariant-loop-free : goal.invariant-loop-free
invariant-loop-free l = (l.bucket ≤ l.free) × (l.free ≤ length l.numbers) × ((i : ℕ) → l.bucket ≤ i → i < l.free → get_or l.numbers i 0 ≡ 0 → ⊥)

abbrev pub decreases-loop-free : goal.decreases-loop-free
decreases-loop-free l = length l.numbers - l.free
