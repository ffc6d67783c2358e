use Rattle.std.proofs.Common.{length, refl}
use Rattle.std.proofs.lemmas.List.{length-map}
use Rattle.axioms.specs.View.{expr_numbers}
use Rattle.normal_forms.specs.Origins.{subsumed}
use Rattle.normal_forms.specs.Forms.{Whole}
use Rattle.normalise.proofs.Giving.{circle_adds}
use Rattle.normalise.proofs.made.Made.circle_step.Goals as goal

pub returns : goal.returns
returns c = circle_adds c.args.origin subsumed (expr_numbers c.args.classes.now) (length c.args.classes.now) c.args.k c.next_in_circle.result c.expr_at-this.result.0 c.expr_at-next.result.0 (length-map c.args.classes.now (λ e. e.0)) c.expr_at-this.ensures c.expr_at-next.ensures c.next_in_circle.ensures.next (c.in_ok-add.ensures.forms (subsumed c.expr_at-this.result.0 c.expr_at-next.result.0) (Whole c.expr_at-this.result.0, Whole c.expr_at-next.result.0, refl, refl, refl))
