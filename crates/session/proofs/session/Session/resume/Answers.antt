use Rattle.std.proofs.Common.{◌∙◌, ap}
use Rattle.session.proofs.session.Session.resume.Goals as goal

pub invariant_of-self : goal.invariant_of-self
invariant_of-self c = record {
  sound = (c.resume.ensures.saturates c.self.inside.ontology c.self.invariant.sound).sound;
  unasked = ap (λ n. n.asked) c.resume.ensures.resumed.normal ∙ c.self.invariant.unasked;
  taken = c.self.invariant.taken;
  within = c.self.invariant.within;
}

pub returns-clause-resumed : goal.returns-clause-resumed
returns-clause-resumed c = rw (← c.self.view_is) c.resume.ensures.resumed

pub returns-clause-saturates : goal.returns-clause-saturates
returns-clause-saturates c = c.resume.ensures.saturates c.self.inside.ontology c.self.invariant.sound
