use Rattle.inference.proofs.Giving.{no_class_behind}
use Rattle.inference.proofs.rules.Rules.may_give_behind.Goals as goal

pub returns-else-may_end : goal.returns-else-may_end
returns-else-may_end c = λ no f of.
    rw (c.in-In.is) (no_class_behind c.args.self.now.problem.now c.args.operand.class c.in-In.other c.in-In.field-1 f of (c.may_end.ensures c.if-may_end.false) (c.may_be_apart.ensures.behind no))
