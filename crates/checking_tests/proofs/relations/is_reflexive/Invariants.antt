use Rattle.std.proofs.Common.{◌≡◌, ◌<◌, ℕ, true}
use Rattle.taxonomy.specs.Relation.{lies_below}
use Rattle.checking_tests.proofs.relations.is_reflexive.Given as goal

abbrev pub invariant-loop-c : goal.invariant-loop-c
invariant-loop-c l = (k : ℕ) → k < l.c → lies_below l.relation k k ≡ true
