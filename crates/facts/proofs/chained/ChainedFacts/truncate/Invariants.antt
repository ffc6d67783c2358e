use Rattle.std.proofs.Common.{◌≡◌, length, take}
use Rattle.facts.proofs.chained.ChainedFacts.truncate.Given as goal

-- the facts up to the last are kept, and it is no earlier than the last that is to be
abbrev pub invariant-loop-self : goal.invariant-loop-self
invariant-loop-self l = (l.self.by ≡ l.fn.self.by) × (take l.len l.self.facts ≡ take l.len l.fn.self.facts)

abbrev pub decreases-loop-self : goal.decreases-loop-self
decreases-loop-self l = length l.self.facts
