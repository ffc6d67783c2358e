use Rattle.std.proofs.Common.{◌≡◌, length}
use Rattle.checking_tests.proofs.relations.class_lists.Given as goal

abbrev pub invariant-loop-c : goal.invariant-loop-c
invariant-loop-c l = length l.lists ≡ l.c
