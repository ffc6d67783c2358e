use Rattle.std.proofs.Common.{◌≡◌, take}
use Rattle.number_sets.proofs.list.few.Given as goal

abbrev pub invariant-loop-number : goal.invariant-loop-number
invariant-loop-number l = l.list ≡ take l.number-index l.numbers
