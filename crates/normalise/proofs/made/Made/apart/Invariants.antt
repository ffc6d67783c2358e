use Rattle.axioms.specs.View.{expr_numbers}
use Rattle.normal_forms.specs.Origins.{PairGives, disjoint}
use Rattle.normalise.specs.View.{Adds, Below, From}
use Rattle.normalise.proofs.made.Made.apart.Given as goal

abbrev pub invariant-loop-n : goal.invariant-loop-n
invariant-loop-n l = Adds l.initial.self l.self (From l.origin (Below (PairGives disjoint (expr_numbers l.classes) l.m) l.n))
