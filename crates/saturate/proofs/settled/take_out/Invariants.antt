use Rattle.std.proofs.Common.{take}
use Rattle.saturate.specs.Settling.{TakesOut}
use Rattle.saturate.proofs.settled.take_out.Given as goal

abbrev pub invariant-loop-number : goal.invariant-loop-number
invariant-loop-number l = TakesOut (take l.number-index l.numbers) l.fn.gone l.gone l.out.items
