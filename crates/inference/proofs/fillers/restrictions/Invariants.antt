use Rattle.std.proofs.Common.{ℕ, take, Contains}
use Rattle.inference.specs.Marks.{HasFilledAt}
use Rattle.inference.proofs.fillers.restrictions.Given as goal

abbrev pub invariant-loop-number : goal.invariant-loop-number
invariant-loop-number l = (n : ℕ) → Contains (take l.number-index l.numbers) n → HasFilledAt l.problem.forms l.mask n
