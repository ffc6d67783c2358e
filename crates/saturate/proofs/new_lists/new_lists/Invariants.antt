use Rattle.std.proofs.Common.{◌≡◌, []}
use Rattle.saturate.proofs.NewLists.{AreNewBefore}
use Rattle.saturate.proofs.new_lists.new_lists.Given as goal

abbrev pub invariant-loop-number : goal.invariant-loop-number
invariant-loop-number l = record {
  classes : AreNewBefore l.earlier.classes l.lists.classes l.number l.new.classes;
  individuals : l.new.individuals ≡ [];
}
