use Rattle.std.proofs.Common.{◌↔◌, IsTrue, refl, subst}
use Rattle.engine.specs.Closed.{Closed}
use Rattle.engine.specs.Saturations.{IsFinished, as_ended}
use Rattle.exactness.specs.ListedInterpretation.{IsConsistent}
use Rattle.session.proofs.Deciding.{decided}
use Rattle.session.proofs.session.Session.is_consistent.Goals as goal

pub returns : goal.returns
returns c =
    let s = c.args.self.now in
    let finished : IsFinished s.saturation = c.in_ok-indexed.ensures.finished.0 refl in
    let P : Closed → Type 0 = λ i. IsTrue c.is_consistent.result ↔ IsConsistent i.ontology i.saturation.normal.asked in (
      finished,
      decided s.ontology (as_ended s.saturation) c.is_consistent.result c.what_follows.ensures.contradiction c.well_formed-2.ensures.session.whole.taken.well_formed
          (c.well_formed-2.ensures.saturated finished) (subst P c.in_ok-indexed.ensures.some c.is_consistent.ensures),
    )
