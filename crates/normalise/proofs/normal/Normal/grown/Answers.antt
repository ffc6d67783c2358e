use Rattle.std.proofs.Common.{◌≡◌, sym, ap, ◌∙◌, subst, Contains}
use Rattle.std.proofs.lemmas.Result.{IfOk-weaker}
use Rattle.axioms.specs.View.{expr_numbers}
use Rattle.normalise.specs.Growth.{AreNormalAgain, Grown, IsNormalFor}
use Rattle.normalise.specs.Listing.{Listing}
use Rattle.normalise.proofs.normal.Normal.grown.Goals as goal

same_asked : (c : goal.After-joined) → expr_numbers c.in_ok-asked.asked.items ≡ c.args.self.now.asked
same_asked c = ap expr_numbers (c.in_ok-asked.ensures ∙ c.deref.ensures.value) ∙ ap (λ (v : Listing). v.asked) c.self.view_is

pub returns-clause-forms : goal.returns-clause-forms
returns-clause-forms c =
    IfOk-weaker c.joined.result _ (AreNormalAgain c.args.ontology.now c.args.from c.args.self.now)
    (λ n is o w grows.
    subst (IsNormalFor c.args.ontology.now) (sym is)
    (c.in_ok-more.ensures.forms (λ e h. subst (λ xs. Contains xs e) (sym (same_asked c)) h) o w grows))
    c.joined.ensures

pub returns-clause-asked : goal.returns-clause-asked
returns-clause-asked c =
    IfOk-weaker c.joined.result _ (λ n. n.asked ≡ c.args.self.now.asked)
    (λ n is. ap (λ (v : Listing). v.asked) is ∙ ap expr_numbers c.in_ok-more.ensures.asked ∙ same_asked c)
    c.joined.ensures

pub returns-clause-kept : goal.returns-clause-kept
returns-clause-kept c = IfOk-weaker c.joined.result _ (Grown c.args.self.now) (λ n is. subst (Grown c.args.self.now) (sym is) c.in_ok-more.ensures.kept) c.joined.ensures
