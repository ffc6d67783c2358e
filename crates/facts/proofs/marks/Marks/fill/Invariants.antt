use Rattle.std.proofs.Common.{◌≡◌, ◌≤◌, length, Contains, None}
use Rattle.facts.specs.Chains.{AllBut, LeadsTo}
use Rattle.facts.specs.Tables.{AreMarked}
use Rattle.facts.proofs.marks.Marks.fill.Given as goal

-- the facts from the number on are marked
abbrev pub invariant-loop-number : goal.invariant-loop-number
invariant-loop-number l = AreMarked l.table.facts l.self × (l.self.owner ≡ None) × (l.number ≤ length l.table.facts) × LeadsTo l.table l.home l.number
    × AllBut l.table l.home l.number (λ place fact. Contains l.self.facts.facts fact)

abbrev pub decreases-loop-number : goal.decreases-loop-number
decreases-loop-number l = l.number
