use Rattle.facts.specs.Closure.{in_itself}
use Rattle.inference.proofs.rules.Rules.enter_itself.Goals as goal

pub add-requires-clause-birth : goal.add-requires-clause-birth
add-requires-clause-birth c = (c.requires.context.0, c.requires.context.1, in_itself (rw c.in-Expr.is at c.requires.context.2))
