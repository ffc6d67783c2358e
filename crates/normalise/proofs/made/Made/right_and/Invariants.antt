use Rattle.axioms.specs.View.{expr_numbers}
use Rattle.normalise.specs.Steps.{BelowOperand}
use Rattle.normalise.specs.View.{Adds, Below, From}
use Rattle.normalise.proofs.made.Made.right_and.Given as goal

abbrev pub invariant-loop-k : goal.invariant-loop-k
invariant-loop-k l = Adds l.initial.self l.self (From l.origin (Below (BelowOperand (expr_numbers l.operands) l.whole.0) l.k))
