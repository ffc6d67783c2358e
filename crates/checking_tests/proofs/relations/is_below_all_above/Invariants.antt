use Rattle.std.proofs.Common.{◌≡◌, ◌<◌, ℕ, true}
use Rattle.taxonomy.specs.Relation.{lies_below}
use Rattle.checking_tests.proofs.relations.is_below_all_above.Given as goal

abbrev pub invariant-loop-e : goal.invariant-loop-e
invariant-loop-e l = (k : ℕ) → k < l.e → lies_below l.relation l.d k ≡ true → lies_below l.relation l.c k ≡ true
