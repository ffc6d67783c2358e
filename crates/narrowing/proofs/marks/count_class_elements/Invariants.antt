use Rattle.std.proofs.Common.{◌≡◌, ◌-◌, ◌^◌, length, min, take}
use Rattle.narrowing.specs.Gathered.{class_elements}
use Rattle.narrowing.proofs.marks.count_class_elements.Given as goal

abbrev pub invariant-loop-row : goal.invariant-loop-row
invariant-loop-row l = l.count ≡ min (length (class_elements (take l.row-index l.rows))) (2 ^ 64 - 1)
