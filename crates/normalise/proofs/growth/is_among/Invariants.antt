use Rattle.std.proofs.Common.{ℕ, ◌≡◌, ◌<◌, slice_get, Some}
use Rattle.axioms.specs.View.{expr_numbers}
use Rattle.normalise.proofs.growth.is_among.Given as goal

abbrev pub invariant-loop-other : goal.invariant-loop-other
invariant-loop-other l = (k : ℕ) → k < l.other-index → slice_get (expr_numbers l.asked) k ≡ Some l.expr.0 → ⊥
