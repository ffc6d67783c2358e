use Rattle.inference.proofs.predicate_lists.PredicateLists.last.Goals as goal

pub returns : goal.returns
returns c = rw (← c.self.view_is) (λ facts are. rw (c.last_before.ensures, c.of.ensures) (are.last c.args.predicate))
