use Rattle.std.proofs.Common.{ℕ, take, Contains}
use Rattle.inference.specs.Marks.{HasSecondAt}
use Rattle.inference.proofs.joins.seconds.Given as goal

abbrev pub invariant-loop-number : goal.invariant-loop-number
invariant-loop-number l = (n : ℕ) → Contains (take l.number-index l.numbers) n → HasSecondAt l.problem.forms l.mask n
