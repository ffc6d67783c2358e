use Rattle.indexes.proofs.Filling.{AreAllFilled}
use Rattle.indexes.proofs.form_index.listed.Given as goal

abbrev pub invariant-loop-number : goal.invariant-loop-number
invariant-loop-number l = AreAllFilled l.forms l.number l.filling
