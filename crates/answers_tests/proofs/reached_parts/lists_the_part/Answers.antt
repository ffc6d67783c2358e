use Rattle.std.proofs.Common.{subst}
use Rattle.closure.specs.Closure.{Expression}
use Rattle.engine.specs.Closed.{Closed}
use Rattle.exactness.specs.ListedInterpretation.{IsSatisfiable}
use Rattle.answers_tests.proofs.reached_parts.lists_the_part.Goals as goal

pub reached_part-requires-clause-satisfiable : goal.reached_part-requires-clause-satisfiable
reached_part-requires-clause-satisfiable c =
    subst (λ (k : Closed). IsSatisfiable k.ontology k.saturation.normal.asked (Expression 3)) c.closed.ensures (c.in-Ok.ensures.satisfiable c.in-Some.place (Expression 3) c.in-Some.ensures)
