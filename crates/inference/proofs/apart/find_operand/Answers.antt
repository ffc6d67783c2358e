use Rattle.std.proofs.Common.{sym, ◌∙◌}
use Rattle.inference.proofs.Parting.{none_in, none_more, none_there}
use Rattle.inference.proofs.apart.find_operand.Goals as goal

pub loop-operand-preserved : goal.loop-operand-preserved
loop-operand-preserved c =
    none_more c.args.facts.now.facts c.args.context c.args.operands.now c.loop-operand.operand-index _ c.loop-operand-test.true c.loop-operand.invariant
    (none_there c.args.facts.now.facts _ c.find-found.result (sym c.is_some.ensures ∙ c.if-is_some.false) c.find-found.ensures.none)

pub returns-clause-none : goal.returns-clause-none
returns-clause-none c = λ _. none_in c.args.facts.now.facts c.args.context c.args.operands.now c.loop-operand.operand-index c.loop-operand-test.false c.loop-operand.invariant
