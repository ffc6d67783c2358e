use Rattle.std.proofs.Common.{◌-◌, length}
use Rattle.facts.specs.Slots.{HasPassed}
use Rattle.facts.proofs.slots.search.Given as goal

-- what was passed
abbrev pub invariant-loop-slot : goal.invariant-loop-slot
invariant-loop-slot l = HasPassed l.facts l.numbers l.bucket l.fact l.slot

abbrev pub decreases-loop-slot : goal.decreases-loop-slot
decreases-loop-slot l = length l.numbers - l.slot
