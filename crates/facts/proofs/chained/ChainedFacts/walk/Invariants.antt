use Rattle.std.proofs.Common.{◌≡◌, ℕ, ◌<◌, ◌≤◌, length, slice_get, Some}
use Rattle.facts.specs.Chains.{LeadsTo, key_of}
use Rattle.facts.proofs.chained.ChainedFacts.walk.Given as goal

-- the fact stands nowhere but before the number
abbrev pub invariant-loop-number : goal.invariant-loop-number
invariant-loop-number l = (l.number ≤ length l.self.facts)
    × LeadsTo l.self (key_of l.self.by l.fact) l.number
    × ((place : ℕ) → slice_get l.self.facts place ≡ Some l.fact → place < l.number)

abbrev pub decreases-loop-number : goal.decreases-loop-number
decreases-loop-number l = l.number
