use Rattle.std.proofs.Common.{◌≡◌, ap, IfOk, ℕ, length, subst}
use Rattle.axioms.specs.Ontology.{Ontology}
use Rattle.engine.specs.Saturations.{Saturated, as_ended}
use Rattle.session.specs.Inferences.{IsInferred}
use Rattle.session.specs.Sessions.{Opened}
use Rattle.session.proofs.inferring.inferred_of.Goals as goal

pub returns-clause-inferred : goal.returns-clause-inferred
returns-clause-inferred c =
    let P : Saturated → Type 0 = λ s. c.closed.result ≡ record { ontology = c.session.inside.ontology; saturation = s } in
    let Q : Opened → Type 0 = λ s. c.closed.result ≡ record { ontology = s.ontology; saturation = as_ended s.saturation } in
    let same = subst Q c.session.view_is (subst P c.finish-finished.ensures c.closed.ensures) in
    let R : Ontology → Type 0 = λ o. IfOk c.inferred_by.result (λ i. IsInferred o i.summary i.text.items) in
    subst R (ap (λ x. x.ontology) same) c.inferred_by.ensures.inferred

pub returns-clause-facts : goal.returns-clause-facts
returns-clause-facts c =
    let P : Saturated → Type 0 = λ s. c.closed.result ≡ record { ontology = c.session.inside.ontology; saturation = s } in
    let Q : Opened → Type 0 = λ s. c.closed.result ≡ record { ontology = s.ontology; saturation = as_ended s.saturation } in
    let same = subst Q c.session.view_is (subst P c.finish-finished.ensures c.closed.ensures) in
    let R : ℕ → Type 0 = λ n. IfOk c.inferred_by.result (λ i. i.summary.facts ≡ n) in
    subst R (ap (λ x. length x.saturation.state.facts) same) c.inferred_by.ensures.facts
