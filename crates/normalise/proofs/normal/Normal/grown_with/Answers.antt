use Rattle.std.proofs.Common.{◌≡◌, ℕ, sym, ap, ◌∙◌, subst}
use Rattle.std.proofs.lemmas.Result.{IfOk-weaker}
use Rattle.axioms.specs.Growth.{Numbers}
use Rattle.axioms.specs.View.{expr_numbers}
use Rattle.normalise.specs.Growth.{AreNormalAgain, Grown, IsNormalFor}
use Rattle.normalise.specs.Listing.{Listing}
use Rattle.normalise.proofs.Asking.{asked_more}
use Rattle.normalise.proofs.normal.Normal.grown_with.Goals as goal

numbered : (c : goal.After-joined) → Numbers c.args.self.now.asked c.args.expr.0 (expr_numbers c.in_ok-asked.asked.items) c.in_ok-asked.ensures.0
numbered c =
    let before : expr_numbers c.deref.result.now ≡ c.args.self.now.asked = ap expr_numbers c.deref.ensures.value ∙ ap (λ (v : Listing). v.asked) c.self.view_is in
    subst (λ xs. Numbers xs c.args.expr.0 (expr_numbers c.in_ok-asked.asked.items) c.in_ok-asked.ensures.0) before c.in_ok-asked.ensures.1

pub returns-clause-forms : goal.returns-clause-forms
returns-clause-forms c =
    IfOk-weaker c.joined.result _ (AreNormalAgain c.args.ontology.now c.args.from c.args.self.now)
    (λ n is o w grows. subst (IsNormalFor c.args.ontology.now) (sym is) (c.in_ok-more.ensures.forms (asked_more _ _ c.args.expr.0 c.in_ok-asked.ensures.0 (numbered c)) o w grows))
    c.joined.ensures

pub returns-clause-asked : goal.returns-clause-asked
returns-clause-asked c =
    IfOk-weaker c.joined.result _ (λ n. (m : ℕ) × Numbers c.args.self.now.asked c.args.expr.0 n.asked m)
    (λ n is.
    let after : n.asked ≡ expr_numbers c.in_ok-asked.asked.items = ap (λ (v : Listing). v.asked) is ∙ ap expr_numbers c.in_ok-more.ensures.asked in
    (c.in_ok-asked.ensures.0, subst (λ ys. Numbers c.args.self.now.asked c.args.expr.0 ys c.in_ok-asked.ensures.0) (sym after) (numbered c)))
    c.joined.ensures

pub returns-clause-kept : goal.returns-clause-kept
returns-clause-kept c = IfOk-weaker c.joined.result _ (Grown c.args.self.now) (λ n is. subst (Grown c.args.self.now) (sym is) c.in_ok-more.ensures.kept) c.joined.ensures
