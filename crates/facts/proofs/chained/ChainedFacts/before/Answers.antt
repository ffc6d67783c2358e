use Rattle.facts.proofs.chained.ChainedFacts.before.Goals as goal

pub returns : goal.returns
returns c = rw (← c.self.view_is, c.at.ensures, c.deref.ensures.value) (λ fact there. c.self.invariant.next c.args.place fact there)
