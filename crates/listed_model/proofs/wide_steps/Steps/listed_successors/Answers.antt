use Rattle.std.proofs.Common.{◌≡◌, ℕ, map, get_or, true, sym, ap, ◌∙◌, subst, refl, inl, inr}
use Rattle.std.proofs.lemmas.Bool.{or_cases, or_left, or_right}
use Rattle.std.proofs.lemmas.List.{take_all}
use Rattle.certificate.specs.View.{pair_row_of}
use Rattle.listed_model.specs.Listing.{targets_of}
use Rattle.listed_model.specs.Members.{holds}
use Rattle.listed_model.proofs.Walks.{holds_next}
use Rattle.listed_model.proofs.wide_steps.Steps.listed_successors.Goals as goal

pub loop-source-preserved : goal.loop-source-preserved
loop-source-preserved c =
    let rows = map pair_row_of c.args.self.now.rows.now in
    let r = c.args.property.0 in
    let sources = c.args.sources.now in
    let at = c.loop-source.source-index in
    let s = get_or sources at 0 in
    let list = c.targets_at.result.now in
    record {
      len = c.add_new.ensures.len ∙ c.loop-source.invariant.len;
      seen = c.in_ok-add_new.ensures.seen;
      members = λ y.
          let old = c.loop-source.invariant.members y in
          let added = c.in_ok-add_new.ensures.added y in
          let before = holds c.loop-source.found.items y in (
            λ h. elim (or_cases before (holds list y) (sym added ∙ h)) [
              | inl m ↦ (let (x, t, p) = old.0 m in (x, (holds_next sources at 0 x c.loop-source-test.true).1 (inl t), p))
              | inr m ↦ (s, (holds_next sources at 0 s c.loop-source-test.true).1 (inr refl), ap (λ ts. holds ts y) (sym c.targets_at.ensures.targets) ∙ m)
            ],
            λ (x, t, p). added ∙ elim ((holds_next sources at 0 x c.loop-source-test.true).0 t) [
              | inl m ↦ or_left before (holds list y) (old.1 (x, m, p))
              | inr e ↦ or_right before (holds list y) (ap (λ ts. holds ts y) c.targets_at.ensures.targets ∙ subst (λ (v : ℕ). holds (targets_of rows r v) y ≡ true) (sym e) p)
            ],
          );
    }

pub returns-clause-members : goal.returns-clause-members
returns-clause-members c = λ y.
    let sources = c.args.sources.now in
    let all = take_all c.loop-source.source-index sources c.loop-source-test.false in
    let old = c.loop-source.invariant.members y in (
      λ h. (let (x, t, p) = old.0 h in (x, ap (λ xs. holds xs x) (sym all) ∙ t, p)),
      λ (x, t, p). old.1 (x, ap (λ xs. holds xs x) all ∙ t, p),
    )
