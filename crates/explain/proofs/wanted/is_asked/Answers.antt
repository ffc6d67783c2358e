use Rattle.cert_check.proofs.Places.{contains_answer}
use Rattle.explain.proofs.wanted.is_asked.Goals as goal

pub returns : goal.returns
returns c = contains_answer (λ e. e.0) c.args.asked.now c.args.expression.0 c.contains.result c.contains.ensures.cases
