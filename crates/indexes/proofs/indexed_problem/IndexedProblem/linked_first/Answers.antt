use Rattle.indexes.proofs.indexed_problem.IndexedProblem.linked_first.Goals as goal

pub returns : goal.returns
returns c = λ n. rw (← c.self.view_is, c.of.ensures) (c.self.invariant.index.listed.linked_first _ n)
