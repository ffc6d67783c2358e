use Rattle.inference.proofs.Giving.{no_class_before}
use Rattle.inference.proofs.rules.Rules.may_give_before.Goals as goal

pub returns-else-may_begin : goal.returns-else-may_begin
returns-else-may_begin c = λ no f of.
    rw (c.in-In.is) (no_class_before c.args.self.now.problem.now c.args.operand.class c.in-In.other c.in-In.field-1 f of (c.may_begin.ensures c.if-may_begin.false) (c.may_be_apart.ensures.before no))
