use Rattle.saturate.specs.Counts.{HasNamesBelow, IsMore, IsSmall}
use Rattle.saturate.proofs.counts.counted.Given as goal

abbrev pub invariant-loop-number : goal.invariant-loop-number
invariant-loop-number l = record {
  small : IsSmall l.counts;
  more : IsMore l.fn.before l.counts;
  has : HasNamesBelow l.counts l.forms l.number;
}
