use Rattle.std.proofs.Common.{◌≡◌, ℕ, All, subst₂, sym, ap, ◌∙◌}
use Rattle.axioms.specs.Ontology.{Ontology}
use Rattle.axioms.specs.WellFormedness.{IsAxiomOf}
use Rattle.entailment.specs.Tests.{assumed, with_individuals}
use Rattle.entailment.proofs.Building.{assumed_there}
use Rattle.entailment.proofs.testing.test_of.Goals as goal

pub assume-requires-clause-there : goal.assume-requires-clause-there
assume-requires-clause-there c =
    let names = c.in_ok-add_individuals.ensures.added.0 in
    let made : c.add_individuals.new.builder ≡ with_individuals c.args.ontology.now names =
    c.in_ok-add_individuals.ensures.added.2 ∙ ap (λ (p : Ontology). with_individuals p names) (c.from-builder.ensures ∙ c.in_ok-copy.ensures) in
    let there = assumed_there c.args.ontology.now names c.args.claim c.requires (c.in_ok-add_individuals.ensures.added.1 ∙ c.individuals_for.ensures) in
    subst₂ (λ (p : Ontology) (n : ℕ). All (IsAxiomOf p) (assumed n c.args.claim)) (sym made) (sym c.first_added.ensures) there
