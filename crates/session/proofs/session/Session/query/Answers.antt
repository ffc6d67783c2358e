use Rattle.std.proofs.Common.{refl, subst}
use Rattle.engine.specs.Saturations.{IsFinished}
use Rattle.session.proofs.Expressions.{answered, unanswered}
use Rattle.session.specs.Queries.{names_in}
use Rattle.session.specs.Sessions.{Opened}
use Rattle.session.proofs.session.Session.query.Goals as goal

pub returns-in-Ok-answered-clause-exact : goal.returns-in-Ok-answered-clause-exact
returns-in-Ok-answered-clause-exact c =
    let P : Opened → Type 0 = λ s. IsFinished s.saturation in
    let is = c.in-Ok-answered.ensures in
    answered c.args.self.now c.args.text.now c.in-Ok.read.0 c.in-Ok.read.1.0 c.in-Ok.ensures.read c.args.max_facts (names_in c.in-Ok-answered.answers)
    (subst P c.self.view_is (c.if-not-is_finished.ensures.finished.0 refl)) c.in-Ok.ensures.within is.few is.exact

pub returns-in-Err-Memory-clause-refused : goal.returns-in-Err-Memory-clause-refused
returns-in-Err-Memory-clause-refused c =
    let P : Opened → Type 0 = λ s. IsFinished s.saturation in
    unanswered c.args.self.now c.args.text.now c.in-Ok.read.0 c.in-Ok.read.1.0 c.in-Ok.ensures.read c.args.max_facts
    (subst P c.self.view_is (c.if-not-is_finished.ensures.finished.0 refl)) c.in-Ok.ensures.within
