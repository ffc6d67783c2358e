use Rattle.std.proofs.Common.{◌≡◌, ℕ, suc, ◌<◌, ◌≤◌, length, get_or, slice_get, Some}
use Rattle.facts.specs.declared.contexts.Fact.{Fact}
use Rattle.facts.specs.Slots.{bucket_of, Stands}
use Rattle.facts.proofs.slots.spread.Given as goal

-- what the slots so far hold stands in its place
abbrev pub invariant-loop-slot : goal.invariant-loop-slot
invariant-loop-slot l = (l.buckets ≤ length l.wider.items)
    × ((slot place : ℕ) (fact : Fact) → slot < l.slot → get_or l.numbers slot 0 ≡ suc place → slice_get l.facts place ≡ Some fact →
    Stands l.wider.items (bucket_of l.seeds l.buckets fact) (suc place))
