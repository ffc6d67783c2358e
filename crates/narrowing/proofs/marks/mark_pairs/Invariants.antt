use Rattle.std.proofs.Common.{take}
use Rattle.narrowing.specs.Gathered.{pair_elements}
use Rattle.narrowing.proofs.Marking.{IsMarked}
use Rattle.narrowing.proofs.marks.mark_pairs.Given as goal

abbrev pub invariant-loop-pair : goal.invariant-loop-pair
invariant-loop-pair l = IsMarked l.fn.row (pair_elements (take l.pair-index l.pairs)) l.row
