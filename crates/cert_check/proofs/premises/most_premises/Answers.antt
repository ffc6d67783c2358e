use Rattle.std.proofs.Common.{arith}
use Rattle.cert_check.proofs.RulesTake.{rules_take}
use Rattle.cert_check.proofs.premises.most_premises.Goals as goal

pub returns : goal.returns
returns c =
    rules_take c.args.ontology.now c.most_operands.result c.longest_chain.result c.max.result c.most_operands.ensures c.longest_chain.ensures
    (omega (arith, c.max-many.ensures, c.max.ensures)) (omega (arith, c.max-many.ensures, c.max.ensures)) (omega (arith, c.max.ensures))
