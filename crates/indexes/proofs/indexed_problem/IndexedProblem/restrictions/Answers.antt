use Rattle.indexes.proofs.Keyed.{restrictions_found}
use Rattle.indexes.specs.FormIndex.{listed_at}
use Rattle.indexes.proofs.indexed_problem.IndexedProblem.restrictions.Goals as goal

pub with_second-requires : goal.with_second-requires
with_second-requires c = rw (c.of-listed.ensures) (c.self.invariant.index.fillers_in_order _)

pub returns : goal.returns
returns c = λ n. rw (← c.self.view_is, ← c.key_of_class.ensures, ← c.key_of_property.ensures)
    (restrictions_found _ (listed_at c.self.inside.index.fillers) _ _ c.of-listed.result.now _ c.of-listed.ensures c.self.invariant.index.listed.fillers c.with_second.ensures n)
