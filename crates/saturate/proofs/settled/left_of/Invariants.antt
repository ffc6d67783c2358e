use Rattle.std.proofs.Common.{◌≡◌, take}
use Rattle.saturate.specs.Flags.{kept}
use Rattle.saturate.proofs.settled.left_of.Given as goal

abbrev pub invariant-loop-number : goal.invariant-loop-number
invariant-loop-number l = l.left.items ≡ kept l.gone (take l.number-index l.numbers)
