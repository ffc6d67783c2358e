use Rattle.inference.proofs.joins.end.Goals as goal

pub returns-else-has_any : goal.returns-else-has_any
returns-else-has_any c = λ n under. absurd (c.has_any.ensures c.if-has_any.false n ((c.chains_to.ensures n).1 under))
