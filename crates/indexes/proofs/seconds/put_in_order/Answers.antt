use Rattle.std.proofs.Common.{rules, of_calls}
use Rattle.std.proofs.lemmas.List.Sorted.{IsNonDecreasingBy-from_sort_by_key}
use Rattle.indexes.specs.Seconds.{rank_at}
use Rattle.indexes.proofs.seconds.put_in_order.Goals as goal

pub returns-clause-order : goal.returns-clause-order
returns-clause-order c = IsNonDecreasingBy-from_sort_by_key (rank_at c.args.forms.now) _ c.sort_unstable_by_key.ensures.sorted (λ a r f k. search (rules, of_calls))
