use Rattle.inference.proofs.visits.denied_between.Goals as goal

pub returns-in-Individual-Individual : goal.returns-in-Individual-Individual
returns-in-Individual-Individual c = rw (c.in-Individual-Individual.is-0, c.in-Individual-Individual.is-1) c.denied_between.ensures
