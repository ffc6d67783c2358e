use Rattle.std.proofs.Common.{◌≡◌, ◌<◌, ℕ, true, length}
use Rattle.taxonomy.specs.Relation.{is_listed}
use Rattle.checking_tests.proofs.relations.type_lists.Given as goal

abbrev pub invariant-loop-a : goal.invariant-loop-a
invariant-loop-a l = record {
  long : length l.lists ≡ l.a;
  within : (a d : ℕ) → is_listed l.lists a d ≡ true → d < l.n;
}
