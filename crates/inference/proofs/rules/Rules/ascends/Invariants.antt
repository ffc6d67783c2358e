use Rattle.inference.proofs.Differing.{Ascend}
use Rattle.inference.proofs.rules.Rules.ascends.Given as goal

abbrev pub invariant-loop-place : goal.invariant-loop-place
invariant-loop-place l = Ascend l.self.problem.now.forms l.list l.place l.end
