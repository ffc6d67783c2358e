use Rattle.std.proofs.Common.{◌<◌, length, take}
use Rattle.axioms.specs.View.{expr_numbers}
use Rattle.normal_forms.specs.Origins.{AndGives}
use Rattle.normalise.specs.View.{Adds, Below, From, StartsClass}
use Rattle.normalise.proofs.made.Made.left_and.Given as goal

abbrev pub invariant-loop-k : goal.invariant-loop-k
invariant-loop-k l = (l.k < length l.operands → StartsClass l.self.operands l.shorter (take l.k (expr_numbers l.operands))) × Adds l.initial.self l.self (From l.origin (Below (AndGives (expr_numbers l.operands) l.whole.0) l.k))
