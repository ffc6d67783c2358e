use Rattle.std.proofs.Common.{◌≡◌, ℕ, ◌<◌, slice_get, Some}
use Rattle.axioms.specs.View.{ind_numbers}
use Rattle.cert_check.proofs.operands.individual_stands_beside.Given as goal

abbrev pub invariant-loop-i : goal.invariant-loop-i
invariant-loop-i l = (k : ℕ) → k < l.i → (l.place ≡ k → ⊥) → slice_get (ind_numbers l.operands) k ≡ Some l.individual.0 → ⊥
