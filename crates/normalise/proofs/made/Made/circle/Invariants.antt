use Rattle.axioms.specs.View.{expr_numbers}
use Rattle.normal_forms.specs.Origins.{CircleGives, subsumed}
use Rattle.normalise.specs.View.{Adds, Below, From}
use Rattle.normalise.proofs.made.Made.circle.Given as goal

abbrev pub invariant-loop-k : goal.invariant-loop-k
invariant-loop-k l = Adds l.initial.self l.self (From l.origin (Below (CircleGives subsumed (expr_numbers l.classes)) l.k))
