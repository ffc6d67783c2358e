use Rattle.std.proofs.Common.{ap, sym, subst, ◌∙◌}
use Rattle.normalise.specs.Growth.{IsNormalFor}
use Rattle.normalise.specs.Listing.{Listing}
use Rattle.engine.proofs.Saturating.{is_sound, none_asked}
use Rattle.engine.proofs.saturation.Saturation.start.Goals as goal

pub returns-clause-sound : goal.returns-clause-sound
returns-clause-sound c =
    let unasked = ap (λ (n : Listing). n.asked) c.share-normal.ensures ∙ c.in_ok-normalise.ensures.asked in
    let normal = subst (IsNormalFor c.args.ontology.now) (sym c.share-normal.ensures) c.in_ok-normalise.ensures.forms in
    is_sound c.args.ontology.now c.share-normal.result c.in_ok-state.state normal (none_asked c.args.ontology.now c.share-normal.result.asked unasked) c.in_ok-state.ensures.forms c.in_ok-state.ensures.apart c.in_ok-state.ensures.problem c.well_formed-2.ensures.state
