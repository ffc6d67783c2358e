use Rattle.std.proofs.Common.{refl}
use Rattle.axioms.specs.View.{expr_numbers}
use Rattle.normal_forms.specs.Origins.{subsumed}
use Rattle.normal_forms.specs.Forms.{Whole}
use Rattle.normalise.proofs.Giving.{operand_adds}
use Rattle.normalise.proofs.made.Made.right_operand.Goals as goal

pub returns : goal.returns
returns c = operand_adds c.args.origin (expr_numbers c.args.operands.now) c.args.whole.0 c.args.k c.expr_at.result.0 (subsumed c.args.whole.0 c.expr_at.result.0) (c.expr_at.result.0, c.expr_at.ensures, refl) c.expr_at.ensures (c.in_ok-add.ensures.forms (subsumed c.args.whole.0 c.expr_at.result.0) (Whole c.args.whole.0, Whole c.expr_at.result.0, refl, refl, refl))
