use Rattle.engine_tests.proofs.ontologies.finished.Goals as goal

-- src/ontologies.rt:120:1
pub returns-clause-saturated : goal.returns-clause-saturated
returns-clause-saturated c = rw (c.finish.ensures) (c.in_ok-saturation.ensures.saturated)
