use Rattle.inference.proofs.rules.Rules.may_begin.Goals as goal

pub returns-then-operand : goal.returns-then-operand
returns-then-operand c = λ no n w. c.ends_intersection.ensures.none no n w.1

pub returns-else-operand : goal.returns-else-operand
returns-else-operand c = λ no n w. c.requires.begins c.if-operand.false n w.0
