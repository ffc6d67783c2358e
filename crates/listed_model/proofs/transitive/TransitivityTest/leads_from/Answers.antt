use Rattle.std.proofs.Common.{map, sym, ap, ◌∙◌, refl, true≢false, arith, inl, inr}
use Rattle.std.proofs.lemmas.Bool.{or_cases}
use Rattle.certificate.specs.View.{pair_row_of}
use Rattle.interpretation_spec.proofs.Shapes.{member_below}
use Rattle.number_sets.specs.Members.{has}
use Rattle.listed_model.specs.Members.{holds}
use Rattle.listed_model.specs.Rows.{LeadsWithin}
use Rattle.listed_model.proofs.Walks.{list_all_means}
use Rattle.listed_model.proofs.transitive.TransitivityTest.leads_from.Goals as goal

pub returns-then-not-are_within-clause-within : goal.returns-then-not-are_within-clause-within
returns-then-not-are_within-clause-within c = (
  λ e. absurd (true≢false (sym e)),
  λ h. sym c.if-not-are_within.true ∙ c.are_within.ensures ∙ (list_all_means c.args.targets.now c.targets_at-ends.result.now).1 (λ z t. h z (ap (λ ts. holds ts z) (sym c.targets_at-ends.ensures.targets) ∙ t)),
)

pub returns-then-contains-2-clause-covered : goal.returns-then-contains-2-clause-covered
returns-then-contains-2-clause-covered c = λ y h.
    let ends = c.targets_at-ends.result.now in
    let is = c.targets_at-ends.ensures.targets in
    let new = c.put_each.new.set in
    let below = member_below new y h in
    let within : LeadsWithin (map pair_row_of c.args.self.now.rows.now) c.args.self.now.property.0 c.args.targets.now c.args.number =
    λ z t. (list_all_means c.args.targets.now ends).0 (sym c.are_within.ensures ∙ c.if-not-are_within.false) z (ap (λ ts. holds ts z) is ∙ t) in
    elim (or_cases (has c.args.covered.now y) (holds ends y) (sym (c.put_each.ensures.members y (omega (arith, below, c.put_each.ensures.len))) ∙ h)) [
      | inl m ↦ c.requires.covered y m
      | inr m ↦ (λ z t. within z (c.requires.done c.args.number (sym c.contains-2.ensures ∙ c.if-contains-2.true) y (ap (λ ts. holds ts y) (sym is) ∙ m) z t))
    ]

pub returns-then-contains-2-clause-within : goal.returns-then-contains-2-clause-within
returns-then-contains-2-clause-within c = (
  λ _ z t. (list_all_means c.args.targets.now c.targets_at-ends.result.now).0 (sym c.are_within.ensures ∙ c.if-not-are_within.false) z (ap (λ ts. holds ts z) c.targets_at-ends.ensures.targets ∙ t),
  λ _. refl,
)

pub returns-else-contains-2-clause-within : goal.returns-else-contains-2-clause-within
returns-else-contains-2-clause-within c = (
  λ _ z t. (list_all_means c.args.targets.now c.targets_at-ends.result.now).0 (sym c.are_within.ensures ∙ c.if-not-are_within.false) z (ap (λ ts. holds ts z) c.targets_at-ends.ensures.targets ∙ t),
  λ _. refl,
)
