use Rattle.std.proofs.Common.{◌≡◌, ◌<◌, ℕ, true, length}
use Rattle.taxonomy.specs.Relation.{lies_below}
use Rattle.checking_tests.proofs.relations.is_transitive.Given as goal

abbrev pub invariant-loop-c : goal.invariant-loop-c
invariant-loop-c l =
    (k d e : ℕ) → k < l.c → d < length l.relation → e < length l.relation
    → lies_below l.relation k d ≡ true → lies_below l.relation d e ≡ true → lies_below l.relation k e ≡ true
