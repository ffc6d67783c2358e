use Rattle.std.proofs.Common.{◌≡◌, ◌↔◌, length, take}
use Rattle.countermodel.specs.declared.pair.Pair.{Pair}
use Rattle.countermodel.specs.Edges.{IsGiven}
use Rattle.countermodel.specs.Keys.{HasPair}
use Rattle.countermodel.specs.Ranges.{Within}
use Rattle.countermodel.proofs.edges.keys_of.Given as goal

abbrev pub invariant-loop-fact : goal.invariant-loop-fact
invariant-loop-fact l = (length l.keys ≡ l.edges.properties) × ((p : Pair) → HasPair l.keys p ↔ Within l.edges.properties l.range (IsGiven l.edges.closure.now l.edges.elements.now (take l.fact-index l.edges.facts.now)) p)
