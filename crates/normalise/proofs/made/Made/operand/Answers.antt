use Rattle.axioms.specs.View.{expr_numbers}
use Rattle.normalise.proofs.Giving.{operand_step}
use Rattle.normalise.proofs.made.Made.operand.Goals as goal

pub returns : goal.returns
returns c = operand_step c.args.self.now c.more_operands.new.self c.add.new.self (expr_numbers c.args.operands.now) c.args.whole.0 c.args.k c.args.origin c.args.shorter c.in_ok-all.all c.expr_at.result c.requires.first c.requires.starts c.expr_at.ensures c.in_ok-all.ensures c.in_ok-add.ensures.forms
