use Rattle.inference.proofs.visits.is_carried.Goals as goal

pub returns-else-eq-clause-filler : goal.returns-else-eq-clause-filler
returns-else-eq-clause-filler c = λ no n under. c.has_any.ensures no n ((c.with_filler.ensures n).1 under)
