use Rattle.std.proofs.Common.{◌≤◌, ◌^◌, take}
use Rattle.std.specs.List.{All}
use Rattle.indexes.specs.Groups.{IsBelow}
use Rattle.indexes.proofs.same_individuals.end_of_all.Given as goal

abbrev pub invariant-loop-number : goal.invariant-loop-number
invariant-loop-number l = record {
  below : All (IsBelow l.end) (take l.number l.forms);
  few : l.end ≤ 2 ^ 32;
}
