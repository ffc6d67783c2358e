use Rattle.std.proofs.Common.{ℕ, MatchOption, Option, sym, subst}
use Rattle.axioms.specs.declared.ids.ExprId.{ExprId}
use Rattle.facts.specs.declared.contexts.Context.TheVariants.{Expr}
use Rattle.answers.specs.Selections.{PutsExpression}
use Rattle.answers.proofs.marks.expression_in.Goals as goal

pub returns-in_err-expression : goal.returns-in_err-expression
returns-in_err-expression c =
    let puts : ℕ → Type 0 = λ e. PutsExpression c.args.fact.now e c.args.class.0 in
    subst (λ (found : Option ExprId). MatchOption found ((e : ℕ) → puts e → ⊥) (λ e. puts e.0)) (sym c.from_residual.ensures) (λ e. c.in_err-expression.ensures (Expr (record { 0 = e })))
