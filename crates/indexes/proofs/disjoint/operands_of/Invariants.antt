use Rattle.std.proofs.Common.{◌≡◌, ◌≤◌, length, take}
use Rattle.indexes.specs.Disjoint.{operands_from}
use Rattle.indexes.proofs.disjoint.operands_of.Given as goal

abbrev pub invariant-loop-list : goal.invariant-loop-list
invariant-loop-list l = record {
  operands : l.operands.items ≡ operands_from 0 (take l.list l.lists);
  few : length l.operands.items ≤ 4294967295;
}
