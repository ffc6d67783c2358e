use Rattle.indexes.proofs.indexed_problem.IndexedProblem.chains_to.Goals as goal

pub returns : goal.returns
returns c = λ n. rw (← c.self.view_is, c.of.ensures, c.key_of_property.ensures) (c.self.invariant.index.listed.ends _ n)
