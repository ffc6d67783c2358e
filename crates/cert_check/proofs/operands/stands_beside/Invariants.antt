use Rattle.std.proofs.Common.{◌≡◌, ℕ, ◌<◌, slice_get, Some}
use Rattle.axioms.specs.View.{expr_numbers}
use Rattle.cert_check.proofs.operands.stands_beside.Given as goal

abbrev pub invariant-loop-i : goal.invariant-loop-i
invariant-loop-i l = (k : ℕ) → k < l.i → (l.place ≡ k → ⊥) → slice_get (expr_numbers l.operands) k ≡ Some l.expression.0 → ⊥
