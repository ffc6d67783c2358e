use Rattle.std.proofs.Common.{◌≡◌, ◌<◌, ℕ, true, length}
use Rattle.taxonomy.specs.Relation.{lies_below}
use Rattle.checking_tests.proofs.relations.is_closed_at.Given as goal

abbrev pub invariant-loop-d : goal.invariant-loop-d
invariant-loop-d l = (k e : ℕ) → k < l.d → e < length l.relation → lies_below l.relation l.c k ≡ true → lies_below l.relation k e ≡ true → lies_below l.relation l.c e ≡ true
