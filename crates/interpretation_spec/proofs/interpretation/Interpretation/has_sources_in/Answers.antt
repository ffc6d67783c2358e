use Rattle.std.proofs.Common.{◌≡◌, ◌<◌, ℕ, List, true, sym, ◌∙◌, subst, length, get_or, true≢false, eqb, arith, inl, inr}
use Rattle.std.specs.List.{list_any}
use Rattle.std.proofs.lemmas.Bool.{cases_lt, eqb-false}
use Rattle.std.proofs.lemmas.List.{get_or_default}
use Rattle.interpretation_spec.proofs.Elements.{target_from}
use Rattle.interpretation_spec.proofs.interpretation.Interpretation.has_sources_in.Goals as goal

pub returns-then-not-contains : goal.returns-then-not-contains
returns-then-not-contains c =
    let s = c.loop-source.source in
    let ts = c.targets_at.result.now in
    let filled = eqb-false (length ts) 0 (sym c.is_empty.ensures ∙ c.if-not-is_empty.true) in
    let some : 0 < length ts =
    elim (cases_lt 0 (length ts)) [
      | inl l ↦ l
      | inr l ↦ absurd (filled (omega arith))
    ] in
    let y = get_or ts 0 0 in
    let t = subst (λ (us : List ℕ). list_any (λ z. eqb z y) us ≡ true) c.targets_at.ensures (target_from ts 0 y some (get_or_default ts 0 y 0 some)) in
    let inside : s < c.args.self.now.size = omega (arith, c.loop-source-test.true, c.size-source-end.ensures.value) in (
      λ e. absurd (true≢false (sym e)),
      λ h. sym c.if-not-contains.true ∙ (c.contains.ensures ∙ h s inside y t),
    )
