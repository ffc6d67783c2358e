use Rattle.indexes.specs.Keys.{by_second}
use Rattle.indexes.proofs.Indexing.{under}
use Rattle.indexes.specs.FormIndex.{listed_at}
use Rattle.indexes.proofs.indexed_problem.IndexedProblem.ends_intersection.Goals as goal

pub returns-clause-some : goal.returns-clause-some
returns-clause-some c = λ yes. rw (← c.self.view_is, ← c.key_of_class.ensures)
    (let w = c.is_used.ensures.some yes in
    (w.0, (under _ by_second (listed_at c.self.inside.index.second) _ _ c.of.ensures c.self.invariant.index.listed.second w.0).0 w.1))

pub returns-clause-none : goal.returns-clause-none
returns-clause-none c = λ no n. rw (← c.self.view_is, ← c.key_of_class.ensures)
    (λ w. c.is_used.ensures.none no n ((under _ by_second (listed_at c.self.inside.index.second) _ _ c.of.ensures c.self.invariant.index.listed.second n).1 w))
