use Rattle.axioms.specs.View.{ind_numbers}
use Rattle.normal_forms.specs.Forms.{N10}
use Rattle.normal_forms.specs.Origins.{NextGives}
use Rattle.normalise.specs.View.{Adds, Below, From}
use Rattle.normalise.proofs.made.Made.same.Given as goal

abbrev pub invariant-loop-k : goal.invariant-loop-k
invariant-loop-k l = Adds l.initial.self l.self (From l.origin (Below (NextGives N10 (ind_numbers l.individuals)) l.k))
