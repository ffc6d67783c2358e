use Rattle.std.proofs.Common.{◌<◌, length, subst, sym}
use Rattle.engine.specs.Closed.{Closed}
use Rattle.session.proofs.Expressions.{is_there}
use Rattle.session.proofs.session.Session.answers_with.Goals as goal

pub saturated_with-requires-clause-there : goal.saturated_with-requires-clause-there
saturated_with-requires-clause-there c = is_there _ _ _ _ c.args.grown.now c.args.expr.0 c.requires.read.1

pub answers_for-requires-clause-there : goal.answers_for-requires-clause-there
answers_for-requires-clause-there c =
    let P : Closed → Type 0 = λ i. c.args.expr.0 < length i.ontology.nodes in
    subst P (sym c.in-Some.ensures.some) (is_there _ _ _ _ c.args.grown.now c.args.expr.0 c.requires.read.1)
