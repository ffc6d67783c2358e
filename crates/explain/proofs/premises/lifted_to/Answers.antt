use Rattle.std.proofs.Common.{◌≡◌, List, ℕ, Option, Some, sym, ap, ◌∙◌, subst}
use Rattle.std.proofs.lemmas.Option.{same_Some}
use Rattle.explain.proofs.Reading.{class_stays}
use Rattle.explain.specs.Premises.{LiftsTo, lifted_to}
use Rattle.explain.specs.Uses.{IsAmong, Uses}
use Rattle.explain.specs.LinesOfFacts.{AreShowing}
use Rattle.facts.specs.declared.contexts.Fact.{Fact}
use Rattle.facts.specs.declared.contexts.Fact.TheVariants.{Edge}
use Rattle.normal_forms.specs.declared.forms.PropId2.{PropId2}
use Rattle.normalise.specs.Problem.{prefixes_of}
use Rattle.explain.proofs.premises.lifted_to.Goals as goal
use Rattle.explain.proofs.premises.lifted_to.Goals.{in_default-via-in-Edge+in_default, in_default-via-in_default}

pub lifted-requires-clause-below : goal.lifted-requires-clause-below
lifted-requires-clause-below g c =
    let facts = c.args.basis.now.closed.now.saturation.state.facts in
    let there = c.fact_of.ensures ∙ ap (λ g. Some g) c.in-Edge-Some.is-0 in
    subst (λ p. LiftsTo c.args.basis.now.closed.now.saturation.state.problem.forms p (Edge c.in-Edge-Some.source c.in-Edge-Some.below c.in-Edge-Some.target)) c.in-Edge-Some.is-1
    (c.requires.below _ there)

pub returns-in_ok-numbers-in-Edge-Some-clause-shown : goal.returns-in_ok-numbers-in-Edge-Some-clause-shown
returns-in_ok-numbers-in-Edge-Some-clause-shown g c f there =
    let facts = c.args.basis.now.closed.now.saturation.state.facts in
    let read = c.fact_of.ensures ∙ ap (λ g. Some g) c.in-Edge-Some.is-0 in
    let P : Option PropId2 → Fact → Type 0 = λ p g. AreShowing (prefixes_of c.args.basis.now.closed.now.saturation.normal) c.lifted.new.derivation c.in_ok-numbers-in-Edge-Some.numbers.items (lifted_to p g) in
    subst (λ p. P p f) (sym c.in-Edge-Some.is-1)
    (subst (P (Some c.in-Edge-Some.above)) (same_Some _ f (sym read ∙ there)) c.in_ok-numbers-in-Edge-Some.ensures.shown)

pub returns-in_default-clause-shown : goal.returns-in_default-clause-shown
returns-in_default-clause-shown g c f there =
    let facts = c.args.basis.now.closed.now.saturation.state.facts in
    let stays : lifted_to c.args.property f ≡ f =
    elim c.in_default.branch [
      | in_default-via-in-Edge+in_default w ↦ ap (λ p. lifted_to p f) w.in_default.is-1
      | in_default-via-in_default w ↦ class_stays c.args.property _ _ f (same_Some f _ (sym there ∙ c.fact_of.ensures ∙ ap (λ g. Some g) w.in_default.is-0))
    ] in
    let P : List ℕ → Fact → Type 0 = AreShowing (prefixes_of c.args.basis.now.closed.now.saturation.normal) c.args.derivation.now in
    subst (P c.in_ok-known.known.items) (sym stays)
    (subst (λ ns. P ns f) (sym c.in_ok-known.ensures) (c.requires.shown f there))

pub returns-in_ok-numbers-in-Edge-Some-clause-used : goal.returns-in_ok-numbers-in-Edge-Some-clause-used
returns-in_ok-numbers-in-Edge-Some-clause-used g c =
    subst (λ ns. Uses c.args.derivation.now c.lifted.new.derivation (IsAmong ns) c.in_ok-numbers-in-Edge-Some.numbers.items) c.in_ok-known.ensures
    c.in_ok-numbers-in-Edge-Some.ensures.used
