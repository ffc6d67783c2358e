use Rattle.std.proofs.Common.{ℕ, ◌+◌, ap}
use Rattle.indexes.proofs.Putting.{placed}
use Rattle.indexes.proofs.seconds.place_of.Goals as goal

pub returns-clause-order : goal.returns-clause-order
returns-clause-order c = placed c.args.forms.now c.args.numbers.now c.count_below.result c.args.number (c.rank_of_second.result + 1) (ap (λ (n : ℕ). n + 1) c.rank_of_second.ensures.rank) c.requires c.count_below.ensures.within c.count_below.ensures.place
