use Rattle.std.proofs.Common.{take}
use Rattle.narrowing.specs.Gathered.{class_elements}
use Rattle.narrowing.proofs.Marking.{IsMarked}
use Rattle.narrowing.proofs.marks.mark_classes.Given as goal

abbrev pub invariant-loop-class : goal.invariant-loop-class
invariant-loop-class l = IsMarked l.fn.row (class_elements (take l.class-index l.classes)) l.row
