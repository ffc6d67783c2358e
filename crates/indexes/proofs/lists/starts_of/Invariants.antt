use Rattle.indexes.proofs.Counting.{AreStartsTo}
use Rattle.indexes.proofs.lists.starts_of.Given as goal

abbrev pub invariant-loop-count : goal.invariant-loop-count
invariant-loop-count l = AreStartsTo l.counts l.starts.items l.end l.count-index
