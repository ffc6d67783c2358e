use Rattle.std.proofs.Common.{take}
use Rattle.saturate.specs.IndexedFacts.{ListsFacts}
use Rattle.saturate.specs.Flags.{kept}
use Rattle.saturate.proofs.extension.indexed.Given as goal

abbrev pub invariant-loop-number : goal.invariant-loop-number
invariant-loop-number l = ListsFacts l.ground l.facts (kept l.flags (take l.number-index l.numbers)) (kept l.flags (take l.number-index l.numbers)) l.index
