use Rattle.inference.proofs.known_facts.KnownFacts.before.Goals as goal

pub returns : goal.returns
returns c = rw (← c.self.view_is) (c.before-2.ensures c.self.inside.facts c.self.invariant.2)
