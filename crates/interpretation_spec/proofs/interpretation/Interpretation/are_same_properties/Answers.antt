use Rattle.std.proofs.Common.{sym, ◌∙◌, refl, true≢false, arith}
use Rattle.axioms.specs.declared.ids.PropId.{PropId}
use Rattle.interpretation_spec.specs.NumberedInterpretation.{HaveSameTargets}
use Rattle.interpretation_spec.proofs.Shapes.{first_and, pairs_of_places, places_of_pairs}
use Rattle.interpretation_spec.proofs.interpretation.Interpretation.are_same_properties.Goals as goal

pub returns-then-not-have_same_targets : goal.returns-then-not-have_same_targets
returns-then-not-have_same_targets c =
    let same = HaveSameTargets c.args.self.now in
    let ps = c.args.properties.now in
    let none : PropId = record { 0 = 0 } in
    let each = first_and (λ (r s : PropId). same r.0 s.0) (λ r x lx. refl) ps c.in-Some.first.now c.loop-property.property-index none (sym c.in-Some.ensures.value) c.loop-property-test.true in (
      λ e. absurd (true≢false (sym e)),
      λ h. sym c.if-not-have_same_targets.true ∙ c.have_same_targets.ensures.1 (each (places_of_pairs same (λ (r : PropId). r.0) ps none h)),
    )

pub returns : goal.returns
returns c = (
  λ _. pairs_of_places (HaveSameTargets c.args.self.now) (λ (r : PropId). r.0) c.args.properties.now record { 0 = 0 } (λ m k l lk x lx.
      sym (c.loop-property.invariant m (omega arith) x lx) ∙ c.loop-property.invariant k (omega arith) x lx),
  λ _. refl,
)
