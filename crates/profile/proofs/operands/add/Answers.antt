use Rattle.profile.proofs.Steps.{expr_added}
use Rattle.profile.proofs.operands.add.Goals as goal

pub returns-clause-read : goal.returns-clause-read
returns-clause-read c =
    expr_added c.args.builder.now c.add_expr-number.new.self _ c.add_expr-number.result c.well_formed-2.ensures c.well_formed-3.ensures c.requires.unnamed c.add_expr-number.ensures.ok c.add_expr-number.ensures.others
