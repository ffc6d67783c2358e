use Rattle.std.proofs.Common.{◌≡◌, ℕ, ◌<◌, slice_get, Some}
use Rattle.axioms.specs.View.{ind_numbers}
use Rattle.cert_check.specs.View.{StandsBeside}
use Rattle.cert_check.proofs.operands.individuals_at_two_places.Given as goal

abbrev pub invariant-loop-i : goal.invariant-loop-i
invariant-loop-i l = (k : ℕ) → k < l.i → slice_get (ind_numbers l.operands) k ≡ Some l.first.0 → StandsBeside (ind_numbers l.operands) k l.second.0 → ⊥
