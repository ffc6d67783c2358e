use Rattle.std.proofs.Common.{◌≡◌, ◌++◌, take}
use Rattle.narrowing.specs.Gathered.{pair_elements}
use Rattle.narrowing.proofs.elements.add_pair_elements.Given as goal

abbrev pub invariant-loop-row : goal.invariant-loop-row
invariant-loop-row l = l.elements.items ≡ l.fn.elements.items ++ pair_elements (take l.row-index l.rows)
