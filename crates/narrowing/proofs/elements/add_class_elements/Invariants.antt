use Rattle.std.proofs.Common.{◌≡◌, ◌++◌, take}
use Rattle.narrowing.specs.Gathered.{class_elements}
use Rattle.narrowing.proofs.elements.add_class_elements.Given as goal

abbrev pub invariant-loop-row : goal.invariant-loop-row
invariant-loop-row l = l.elements.items ≡ l.fn.elements.items ++ class_elements (take l.row-index l.rows)
