use Rattle.std.proofs.Common.{◌↔◌, ℕ, ◌+◌, List, Contains, take, sym, ap, ◌∙◌, subst}
use Rattle.std.specs.Global.{Vec}
use Rattle.std.proofs.lemmas.Result.{IfOk-weaker}
use Rattle.lemmas.proofs.Members.{Contains-none}
use Rattle.number_sets.proofs.Members.{all_taken, none_taken}
use Rattle.countermodel.specs.ContextLists.{expression_at}
use Rattle.countermodel.proofs.PlacedExpressions.{no_expression, one_expression}
use Rattle.countermodel.proofs.expressions.expressions_among.Goals as goal
use Rattle.countermodel.proofs.expressions.expressions_among.Goals.{in-Expr+in_ok-push, in_default}

pub loop-context-init : goal.loop-context-init
loop-context-init c = λ e. (
  λ there. absurd (Contains-none e (subst (λ (es : List ℕ). Contains es e) c.new-expressions.ensures.items there)),
  λ there. absurd (none_taken c.args.contexts.now (expression_at e) there),
)

pub loop-context-preserved : goal.loop-context-preserved
loop-context-preserved c =
    let contexts = c.args.contexts.now in
    let k = c.loop-context.context-index in
    let numbers = c.loop-context.expressions.items in
    let are : List ℕ → Type 0 = λ es. (e : ℕ) → Contains es e ↔ Contains (take (k + 1) contexts) (expression_at e) in
    elim c.match-context.branch [
      | in-Expr+in_ok-push w ↦
          subst are (sym (ap (λ (v : Vec ℕ). v.items) w.expressions-is ∙ w.in_ok-push.ensures.items))
          (one_expression contexts k (expression_at 0) c.loop-context-test.true numbers c.loop-context.invariant w.in-Expr.expression w.in-Expr.is)
      | in_default w ↦
          subst are (sym (ap (λ (v : Vec ℕ). v.items) w.expressions-is))
          (no_expression contexts k (expression_at 0) c.loop-context-test.true numbers c.loop-context.invariant (λ e same. w.in_default.not-Expr (record { 0 = e }) same))
    ]

pub returns-clause-same : goal.returns-clause-same
returns-clause-same c =
    let k = c.loop-context.context-index in
    let done = c.loop-context-test.false in
    IfOk-weaker c.ascending.result _ _
    (λ v same e. (
      λ there. (all_taken c.args.contexts.now k (expression_at e) done).0 ((c.loop-context.invariant e).0 (subst (λ (es : List ℕ). Contains es e) c.deref.ensures.value ((same e).0 there))),
      λ there. (same e).1 (subst (λ (es : List ℕ). Contains es e) (sym c.deref.ensures.value) ((c.loop-context.invariant e).1 ((all_taken c.args.contexts.now k (expression_at e) done).1 there))),
    ))
    c.ascending.ensures.same
