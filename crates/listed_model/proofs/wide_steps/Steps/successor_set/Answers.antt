use Rattle.std.proofs.Common.{◌≡◌, ℕ, map, get_or, true, sym, ◌∙◌, subst, refl, inl, inr}
use Rattle.std.proofs.lemmas.Bool.{or_cases, or_left, or_right}
use Rattle.certificate.specs.View.{pair_row_of}
use Rattle.number_sets.specs.Members.{has}
use Rattle.listed_model.specs.Listing.{targets_of}
use Rattle.listed_model.specs.Members.{holds}
use Rattle.listed_model.proofs.Walks.{holds_next}
use Rattle.listed_model.proofs.wide_steps.Steps.successor_set.Goals as goal

pub loop-source-preserved : goal.loop-source-preserved
loop-source-preserved c =
    let rows = map pair_row_of c.args.self.now.rows.now in
    let r = c.args.property.0 in
    let sources = c.args.sources.now in
    let at = c.loop-source.source-index in
    let s = get_or sources at 0 in
    record {
      len = c.put_targets.ensures.len ∙ c.loop-source.invariant.len;
      members = λ y.
          let old = c.loop-source.invariant.members y in
          let added = c.put_targets.ensures.all c.if-not-put_targets.false y in
          let before = has c.loop-source.all y in
          let more = holds (targets_of rows r s) y in (
            λ h. elim (or_cases before more (sym added ∙ h)) [
              | inl m ↦ (let (x, t, p) = old.0 m in (x, (holds_next sources at 0 x c.loop-source-test.true).1 (inl t), p))
              | inr m ↦ (s, (holds_next sources at 0 s c.loop-source-test.true).1 (inr refl), m)
            ],
            λ (x, t, p). added ∙ elim ((holds_next sources at 0 x c.loop-source-test.true).0 t) [
              | inl m ↦ or_left before more (old.1 (x, m, p))
              | inr e ↦ or_right before more (subst (λ (v : ℕ). holds (targets_of rows r v) y ≡ true) (sym e) p)
            ],
          );
    }
