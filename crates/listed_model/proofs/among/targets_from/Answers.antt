use Rattle.std.proofs.Common.{◌≡◌, inl, inr, ℕ, map, get_or, true, refl, sym, ap, ◌∙◌, subst, true≢false}
use Rattle.std.proofs.lemmas.List.{take_all}
use Rattle.certificate.specs.View.{pair_row_of}
use Rattle.listed_model.specs.Listing.{targets_of}
use Rattle.listed_model.specs.Members.{holds}
use Rattle.listed_model.proofs.Passed.{holds_append}
use Rattle.listed_model.proofs.Walks.{holds_next}
use Rattle.listed_model.proofs.among.targets_from.Goals as goal

pub loop-source-init : goal.loop-source-init
loop-source-init c = λ y. (
  λ h. absurd (true≢false (sym h ∙ ap (λ xs. holds xs y) c.new-targets.ensures.items)),
  λ (x, h, t). absurd (true≢false (sym h)),
)

pub loop-source-preserved : goal.loop-source-preserved
loop-source-preserved c = λ y.
    let rows = map pair_row_of c.args.rows.now in
    let r = c.args.property.0 in
    let sources = c.args.sources.now in
    let at = c.loop-source.source-index in
    let old = c.loop-source.invariant y in
    let is = c.in_ok-extend_from_slice.ensures.items in
    let both = holds_append c.loop-source.targets.items c.targets_at.result.now y in
    let T : ℕ → Type 0 = λ (x : ℕ). holds (targets_of rows r x) y ≡ true in (
      λ h. elim (both.0 (sym (ap (λ xs. holds xs y) is) ∙ h)) [
        | inl m ↦ (let (x, s, t) = old.0 m in (x, (holds_next sources at 0 x c.loop-source-test.true).1 (inl s), t))
        | inr m ↦
            (let x = get_or sources at 0 in
            (x, (holds_next sources at 0 x c.loop-source-test.true).1 (inr refl), ap (λ xs. holds xs y) (sym c.targets_at.ensures.targets) ∙ m))
      ],
      λ (x, s, t). ap (λ xs. holds xs y) is ∙ both.1 (elim ((holds_next sources at 0 x c.loop-source-test.true).0 s) [
        | inl m ↦ inl (old.1 (x, m, t))
        | inr e ↦ inr (ap (λ xs. holds xs y) c.targets_at.ensures.targets ∙ subst T (sym e) t)
      ]),
    )

pub returns-clause-members : goal.returns-clause-members
returns-clause-members c = λ y.
    let all = take_all c.loop-source.source-index c.args.sources.now c.loop-source-test.false in
    let old = c.loop-source.invariant y in
    let same = c.put_in_order.ensures.same y in (
      λ h. (let (x, s, t) = old.0 (sym same ∙ h) in (x, ap (λ xs. holds xs x) (sym all) ∙ s, t)),
      λ (x, s, t). same ∙ old.1 (x, ap (λ xs. holds xs x) all ∙ s, t),
    )
