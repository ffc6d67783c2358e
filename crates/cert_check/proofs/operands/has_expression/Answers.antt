use Rattle.cert_check.proofs.Places.{contains_answer}
use Rattle.cert_check.proofs.operands.has_expression.Goals as goal

pub returns : goal.returns
returns c = contains_answer (λ e. e.0) c.args.operands.now c.args.expression.0 c.contains.result c.contains.ensures.cases
