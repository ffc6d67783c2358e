use Rattle.inference.proofs.rules.Rules.may_end.Goals as goal

pub returns-then-operand : goal.returns-then-operand
returns-then-operand c = λ no n w. c.begins_intersection.ensures.none no n w.0

pub returns-else-operand : goal.returns-else-operand
returns-else-operand c = λ no n w. c.requires.ends c.if-operand.false n w.1
