use Rattle.std.proofs.Common.{◌≡◌, ℕ, take, slice_get, Some, Contains}
use Rattle.indexes.proofs.indexed_problem.IndexedProblem.has.Given as goal

abbrev pub invariant-loop-number : goal.invariant-loop-number
invariant-loop-number l = (n : ℕ) → Contains (take l.number-index l.number-items) n → ¬ (slice_get l.self.forms n ≡ Some l.form)
