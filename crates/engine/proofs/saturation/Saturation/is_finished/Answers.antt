use Rattle.std.proofs.Common.{◌≡◌, length, sym, ap, subst, ◌∙◌}
use Rattle.std.proofs.lemmas.Bool.{eqb-true}
use Rattle.engine.specs.Saturations.{IsFinished}
use Rattle.engine.proofs.Saturating.{is_saturated}
use Rattle.engine.proofs.saturation.Saturation.is_finished.Goals as goal

pub returns-clause-saturated : goal.returns-clause-saturated
returns-clause-saturated c = λ yes.
    let same : c.served.result ≡ length c.facts.result.now = eqb-true c.served.result (length c.facts.result.now) yes in
    let all : IsFinished c.args.self.now = sym c.served.ensures ∙ (same ∙ ap length c.facts.ensures) in
    let done : IsFinished (record { normal = c.self.inside.normal; state = c.self.inside.state }) = subst IsFinished (sym c.self.view_is) all in
    rw (← c.self.view_is) (λ o h. is_saturated o c.self.inside.normal c.self.inside.state h (c.well_formed-2.ensures.closure done) c.well_formed-2.ensures.few)
