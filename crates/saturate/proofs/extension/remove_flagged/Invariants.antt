use Rattle.std.proofs.Common.{take}
use Rattle.saturate.proofs.Removing.{AreTakenOut}
use Rattle.saturate.proofs.extension.remove_flagged.Given as goal

abbrev pub invariant-loop-number : goal.invariant-loop-number
invariant-loop-number l = AreTakenOut l.facts (take l.number-index l.number-items) l.fn.index l.index
