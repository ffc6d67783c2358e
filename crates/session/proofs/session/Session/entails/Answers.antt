use Rattle.std.proofs.Common.{refl, subst}
use Rattle.engine.specs.Saturations.{IsFinished}
use Rattle.session.proofs.EntailedTexts.{entailment}
use Rattle.session.specs.Sessions.{Opened}
use Rattle.session.proofs.session.Session.entails.Goals as goal

pub returns-clause-exact : goal.returns-clause-exact
returns-clause-exact c =
    let P : Opened → Type 0 = λ s. IsFinished s.saturation in
    entailment c.args.self.now c.args.text.now c.in-Ok.stated (subst P c.self.view_is (c.if-not-is_finished.ensures.finished.0 refl)) c.in-Ok.ensures.within c.in-Ok.ensures.stated
    c.follows-follows.result c.follows-follows.ensures.known c.follows-follows.ensures.exact c.args.max_facts c.follows-follows.ensures.few
