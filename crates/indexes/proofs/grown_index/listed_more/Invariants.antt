use Rattle.indexes.proofs.Extending.{AreIndexedTo, Share}
use Rattle.indexes.proofs.grown_index.listed_more.Given as goal

abbrev pub invariant-loop-number : goal.invariant-loop-number
invariant-loop-number l = AreIndexedTo l.forms l.number l.index × Share l.earlier l.index
