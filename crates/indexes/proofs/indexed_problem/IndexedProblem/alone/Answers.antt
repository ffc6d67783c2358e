use Rattle.indexes.proofs.indexed_problem.IndexedProblem.alone.Goals as goal

pub returns : goal.returns
returns c = λ n. rw (← c.self.view_is, c.of.ensures, c.key_of_class.ensures) (c.self.invariant.index.listed.alone _ n)
