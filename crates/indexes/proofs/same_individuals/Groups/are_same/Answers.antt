use Rattle.indexes.proofs.Grouping.{told_same}
use Rattle.indexes.proofs.same_individuals.Groups.are_same.Goals as goal

pub returns : goal.returns
returns c = λ forms is.
    told_same forms c.args.first c.args.second c.least.result c.least-2.result c.eq.result c.eq.ensures
    (c.least.ensures.same forms is) (λ other. c.least.ensures.low forms other is)
    (c.least-2.ensures.same forms is) (λ other. c.least-2.ensures.low forms other is)
