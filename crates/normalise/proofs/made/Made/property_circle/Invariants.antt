use Rattle.axioms.specs.View.{prop_numbers}
use Rattle.normal_forms.specs.Forms.{N5}
use Rattle.normal_forms.specs.Origins.{CircleGives}
use Rattle.normalise.specs.View.{Adds, Below, From}
use Rattle.normalise.proofs.made.Made.property_circle.Given as goal

abbrev pub invariant-loop-k : goal.invariant-loop-k
invariant-loop-k l = Adds l.initial.self l.self (From l.origin (Below (CircleGives N5 (prop_numbers l.props)) l.k))
