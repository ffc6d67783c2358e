use Rattle.std.proofs.Common.{take}
use Rattle.inference.specs.Partings.{NoneIsApart}
use Rattle.inference.proofs.apart.find_listed.Given as goal

abbrev pub invariant-loop-number : goal.invariant-loop-number
invariant-loop-number l = NoneIsApart l.apart l.context l.facts.facts (take l.number-index l.numbers)
