use Rattle.std.proofs.lemmas.Option.{IfSome_then}
use Rattle.closure.specs.Closure.{IsRoot}
use Rattle.answers_tests.proofs.derivations.class_named.Goals as goal

pub returns : goal.returns
returns c asked = IfSome_then c.class_expr.result c.class_expr.ensures.found (λ e at. IsRoot.named c.in_ok-number.number e.0 at)
