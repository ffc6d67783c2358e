use Rattle.indexes.specs.declared.keys.Key.TheVariants.{Whole}
use Rattle.indexes.proofs.Keyed.{denied_found}
use Rattle.indexes.specs.FormIndex.{listed_at}
use Rattle.indexes.proofs.indexed_problem.IndexedProblem.denied_between.Goals as goal

pub with_second-requires : goal.with_second-requires
with_second-requires c = rw (c.of-listed.ensures) (c.self.invariant.index.denied_in_order (Whole c.args.source.0))

pub returns : goal.returns
returns c = λ n. rw (← c.self.view_is)
    (denied_found _ (listed_at c.self.inside.index.denied) (Whole c.args.source.0) (Whole c.args.target.0) c.of-listed.result.now _ c.of-listed.ensures c.self.invariant.index.listed.denied c.with_second.ensures n)
