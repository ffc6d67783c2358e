use Rattle.std.proofs.Common.{ℕ, rules, of_calls, ltb, arith}
use Rattle.std.proofs.lemmas.Fn.{always_returns_same}
use Rattle.std.proofs.lemmas.Bool.{lt-ltb, ltb-true}
use Rattle.listed_model.proofs.ascending.count_below.Goals as goal

pub returns-clause-place : goal.returns-clause-place
returns-clause-place c = c.partition_point.ensures.partitioned (λ (k : ℕ). ltb k c.args.bound) (always_returns_same _ _ _ (λ a r f k. search (rules, of_calls))) (λ i j d l m t. let u = c.requires i j d l m in let v = ltb-true _ _ t in lt-ltb _ _ (omega arith))
