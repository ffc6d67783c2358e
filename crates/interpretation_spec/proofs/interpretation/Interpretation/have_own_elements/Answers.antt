use Rattle.std.proofs.Common.{sym, ◌∙◌, refl, true≢false, arith}
use Rattle.axioms.specs.declared.ids.IndId.{IndId}
use Rattle.interpretation_spec.specs.NumberedInterpretation.{HaveTwoElements}
use Rattle.interpretation_spec.proofs.Shapes.{pairs_of_places, places_of_pairs}
use Rattle.interpretation_spec.proofs.interpretation.Interpretation.have_own_elements.Goals as goal

pub returns-then-contains : goal.returns-then-contains
returns-then-contains c =
    let at = c.loop-individual.individual-index in
    let here = c.element_at-element.ensures in (
      λ e. absurd (true≢false (sym e)),
      λ h.
          let (k, lk, e) = (c.loop-individual.invariant.met c.element_at-element.result here.inside).0 (sym c.contains.ensures ∙ c.if-contains.true) in
          absurd (places_of_pairs (HaveTwoElements c.args.self.now) (λ (a : IndId). a.0) c.args.individuals.now record { 0 = 0 } h k at lk c.loop-individual-test.true (e ∙ here.value)),
    )

pub returns : goal.returns
returns c = (
  λ _. pairs_of_places (HaveTwoElements c.args.self.now) (λ (a : IndId). a.0) c.args.individuals.now record { 0 = 0 } (λ m k l lk. c.loop-individual.invariant.apart m k l (omega arith)),
  λ _. refl,
)
