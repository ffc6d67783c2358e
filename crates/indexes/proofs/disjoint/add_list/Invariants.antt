use Rattle.std.proofs.Common.{◌≡◌, ◌+◌, ◌-◌, ◌≤◌, ◌++◌, drop, length}
use Rattle.indexes.specs.Disjoint.{operands_of_list}
use Rattle.indexes.proofs.disjoint.add_list.Given as goal

abbrev pub invariant-loop-place : goal.invariant-loop-place
invariant-loop-place l = record {
  added : l.operands.items ++ operands_of_list l.list (drop l.place l.classes) ≡ l.fn.operands.items ++ operands_of_list l.list l.classes;
  few : length l.operands.items + (length l.classes - l.place) ≤ 4294967295;
}
