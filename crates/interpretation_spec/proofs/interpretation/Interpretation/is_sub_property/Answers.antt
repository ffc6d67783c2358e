use Rattle.std.proofs.Common.{◌≡◌, ◌<◌, ℕ, List, Bool, true, false, eqb, sym, ap, ◌∙◌, subst, length, true≢false, below_more, arith, inl, inr}
use Rattle.std.specs.List.{list_any}
use Rattle.std.proofs.lemmas.Bool.{or_right, or_cases}
use Rattle.std.proofs.lemmas.List.{length-replicate}
use Rattle.number_sets.specs.Members.{has}
use Rattle.interpretation_spec.proofs.Shapes.{member_below, empty_row}
use Rattle.interpretation_spec.proofs.interpretation.Interpretation.is_sub_property.Goals as goal

pub returns-then-not-is_subset : goal.returns-then-not-is_subset
returns-then-not-is_subset c =
    let n = c.args.self.now in
    let s = c.loop-source.source in
    let row = c.in_ok-reached.reached in
    let empty = c.in_ok-targets.targets in
    let ts = c.targets_at.result.now in
    let size = c.size.ensures.value in
    let inside : s < n.size = omega (arith, c.loop-source-test.true, c.size-source-end.ensures.value) in
    let long = ap length c.in_ok-targets.ensures ∙ length-replicate c.size.result false in (
      λ e. absurd (true≢false (sym e)),
      λ h. sym c.if-not-is_subset.true ∙ c.is_subset.ensures.1 (λ k m.
          let below = member_below row k m in
          let lk : k < n.size = omega (arith, below, c.in_ok-reached.ensures.long) in
          let lr : k < length empty = omega (arith, lk, long, size) in
          let t = subst (λ (us : List ℕ). list_any (λ z. eqb z k) us ≡ true) (sym c.targets_at.ensures) (h s inside k lk ((c.in_ok-reached.ensures.members k lk).0 m)) in
          c.put_targets.ensures.members k lr ∙ or_right (has empty k) (list_any (λ z. eqb z k) ts) t),
    )

pub loop-source-preserved : goal.loop-source-preserved
loop-source-preserved c =
    let n = c.args.self.now in
    let s = c.loop-source.source in
    let empty = c.in_ok-targets.targets in
    let size = c.size.ensures.value in
    let long = ap length c.in_ok-targets.ensures ∙ length-replicate c.size.result false in
    below_more _ s c.loop-source.invariant (λ y ly p.
    let lr : y < length empty = omega (arith, ly, long, size) in
    let there = c.is_subset.ensures.0 c.if-not-is_subset.false y ((c.in_ok-reached.ensures.members y ly).1 p) in
    elim (or_cases (has empty y) (list_any (λ z. eqb z y) c.targets_at.result.now) (sym (c.put_targets.ensures.members y lr) ∙ there)) [
      | inl m ↦ absurd (true≢false (sym m ∙ (ap (λ (row : List Bool). has row y) c.in_ok-targets.ensures ∙ empty_row c.size.result y)))
      | inr t ↦ subst (λ (us : List ℕ). list_any (λ z. eqb z y) us ≡ true) c.targets_at.ensures t
    ])
