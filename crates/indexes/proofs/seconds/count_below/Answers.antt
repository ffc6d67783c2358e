use Rattle.std.proofs.Common.{ℕ, rules, of_calls, ltb}
use Rattle.std.proofs.lemmas.Fn.{always_returns_same}
use Rattle.std.proofs.lemmas.List.Sorted.{IsPartitionedBy-ltb}
use Rattle.indexes.specs.Seconds.{rank_at}
use Rattle.indexes.proofs.seconds.count_below.Goals as goal

pub returns-clause-place : goal.returns-clause-place
returns-clause-place c = c.partition_point.ensures.partitioned (λ (n : ℕ). ltb (rank_at c.args.forms.now n) c.args.bound) (always_returns_same _ _ _ (λ a r f k. search (rules, of_calls))) (IsPartitionedBy-ltb (rank_at c.args.forms.now) c.args.numbers.now c.args.bound c.requires)
