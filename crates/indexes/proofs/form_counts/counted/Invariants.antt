use Rattle.indexes.specs.Counts.{AreFormCounts}
use Rattle.indexes.proofs.form_counts.counted.Given as goal

abbrev pub invariant-loop-number : goal.invariant-loop-number
invariant-loop-number l = AreFormCounts l.forms l.number l.counts
