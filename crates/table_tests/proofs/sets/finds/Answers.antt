use Rattle.std.proofs.Common.{ℕ, sym, subst}
use Rattle.number_sets.specs.Search.{IsBounded}
use Rattle.table_tests.proofs.Circle.{circle_bounded}
use Rattle.table_tests.proofs.sets.finds.Goals as goal

pub run-requires-clause-bounded : goal.run-requires-clause-bounded
run-requires-clause-bounded c = subst (IsBounded (λ (n : ℕ). n)) (sym c.requires.circle) circle_bounded
