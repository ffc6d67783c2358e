use Rattle.std.proofs.Common.{Some, sym, ap, ◌∙◌}
use Rattle.inference.proofs.Planning.{also_one}
use Rattle.inference.proofs.plans.plan_form.Goals as goal

pub returns-in_ok-push : goal.returns-in_ok-push
returns-in_ok-push c =
    let forms = c.args.problem.now.forms in
    let w = c.in-Some-N6 in
    rw c.in_ok-push.ensures.items (also_one forms c.args.plan.now.items (record { number = c.args.number; first = w.first; second = w.second; whole = w.whole }) (sym c.form.ensures ∙ w.is ∙ ap Some w.field-0-is))
