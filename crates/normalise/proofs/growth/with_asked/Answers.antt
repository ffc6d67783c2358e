use Rattle.std.proofs.Common.{◌∷◌, [], ◌++◌, inr, length, refl, sym, ap, ◌∙◌}
use Rattle.std.proofs.lemmas.Bool.{true≢false}
use Rattle.std.proofs.lemmas.List.{map-append}
use Rattle.axioms.specs.View.{expr_numbers}
use Rattle.normalise.proofs.growth.with_asked.Goals as goal

pub returns : goal.returns
returns c = (
  length (expr_numbers c.args.asked.now),
  inr (
    (λ h. true≢false (sym (c.is_among.ensures.1 h) ∙ c.if-is_among.false)),
    refl,
    ap expr_numbers (c.in_ok-push.ensures.items ∙ ap (λ xs. xs ++ c.args.expr ∷ []) c.in_ok-all.ensures) ∙ map-append (λ e. e.0) c.args.asked.now (c.args.expr ∷ []),
  ),
)
