use Rattle.std.proofs.Common.{◌≤◌, length}
use Rattle.facts.specs.Chains.{AllBut, LeadsTo}
use Rattle.facts.specs.Slots.{HasSlots, Holds}
use Rattle.facts.proofs.links.gather.Given as goal

-- the facts from the number on are held
abbrev pub invariant-loop-number : goal.invariant-loop-number
invariant-loop-number l = HasSlots l.slots × (l.number ≤ length l.facts.facts) × LeadsTo l.facts l.home l.number
    × AllBut l.facts l.home l.number (λ place fact. Holds l.seeds l.slots fact place)

abbrev pub decreases-loop-number : goal.decreases-loop-number
decreases-loop-number l = l.number
