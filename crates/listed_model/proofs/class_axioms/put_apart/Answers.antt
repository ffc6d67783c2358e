use Rattle.std.proofs.Common.{refl, sym, ◌∙◌, true≢false}
use Rattle.number_sets.specs.Members.{has}
use Rattle.listed_model.proofs.Passed.{one_passes, which_passes}
use Rattle.listed_model.proofs.class_axioms.put_apart.Goals as goal

pub returns-then-has_one-clause-apart : goal.returns-then-has_one-clause-apart
returns-then-has_one-clause-apart c =
    let (x, m, s) = which_passes (has c.args.seen.now) c.args.elements.now (sym c.has_one.ensures ∙ c.if-has_one.true) in
    (λ e. absurd (true≢false (sym e)), λ h. absurd (h x s m))

pub returns-clause-apart : goal.returns-clause-apart
returns-clause-apart c = (
  λ _ x s m. true≢false (sym (one_passes (has c.args.seen.now) c.args.elements.now x m s) ∙ sym c.has_one.ensures ∙ c.if-has_one.false),
  λ _. refl,
)
