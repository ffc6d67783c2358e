use Rattle.std.proofs.Common.{take}
use Rattle.narrowing.proofs.Marking.{IsMarked}
use Rattle.narrowing.proofs.marks.mark_elements.Given as goal

abbrev pub invariant-loop-element : goal.invariant-loop-element
invariant-loop-element l = IsMarked l.fn.row (take l.element-index l.elements) l.row
