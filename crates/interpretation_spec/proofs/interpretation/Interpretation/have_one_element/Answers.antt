use Rattle.std.proofs.Common.{sym, ◌∙◌, refl, true≢false, arith}
use Rattle.axioms.specs.declared.ids.IndId.{IndId}
use Rattle.interpretation_spec.specs.NumberedInterpretation.{HaveOneElement}
use Rattle.interpretation_spec.proofs.Shapes.{first_and, pairs_of_places, places_of_pairs}
use Rattle.interpretation_spec.proofs.interpretation.Interpretation.have_one_element.Goals as goal

pub returns-then-element_at-element : goal.returns-then-element_at-element
returns-then-element_at-element c =
    let one = HaveOneElement c.args.self.now in
    let xs = c.args.individuals.now in
    let none : IndId = record { 0 = 0 } in
    let each = first_and (λ (a b : IndId). one a.0 b.0) (λ a. refl) xs c.in-Some.first.now c.loop-individual.individual-index none (sym c.in-Some.ensures.value) c.loop-individual-test.true in (
      λ e. absurd (true≢false (sym e)),
      λ h. absurd (c.if-element_at-element.true (c.element_at.ensures.value ∙ sym (each (places_of_pairs one (λ (a : IndId). a.0) xs none h)) ∙ sym c.element_at-element.ensures.value)),
    )

pub returns : goal.returns
returns c = (
  λ _. pairs_of_places (HaveOneElement c.args.self.now) (λ (a : IndId). a.0) c.args.individuals.now record { 0 = 0 } (λ m k l lk.
      c.loop-individual.invariant m (omega arith) ∙ sym (c.loop-individual.invariant k (omega arith))),
  λ _. refl,
)
