use Rattle.std.proofs.Common.{ℕ}
use Rattle.axioms.specs.View.{expr_numbers}
use Rattle.normal_forms.specs.Origins.{PairGives, disjoint}
use Rattle.normalise.specs.View.{Adds, Below, From}
use Rattle.normalise.proofs.made.Made.each_apart.Given as goal

abbrev pub invariant-loop-m : goal.invariant-loop-m
invariant-loop-m l = Adds l.initial.self l.self (From l.origin (Below (λ m g. (n : ℕ) × PairGives disjoint (expr_numbers l.classes) m n g) l.m))
