use Rattle.std.proofs.Common.{refl}
use Rattle.indexes.proofs.Adding.{adds_expression, adds_individual, puts_expression, puts_individual}
use Rattle.indexes.proofs.by_context.ByContext.put.Goals as goal

pub returns-in_ok-add-in-Expr-clause-ok : goal.returns-in_ok-add-in-Expr-clause-ok
returns-in_ok-add-in-Expr-clause-ok c = rw c.in-Expr.is (adds_expression c.args.self.now (record { expressions = c.add.new.self; individuals = c.args.self.now.individuals }) c.in-Expr.e c.args.number c.in_ok-add-in-Expr.ensures.ok refl)

pub returns-in_ok-add-in-Expr-clause-last : goal.returns-in_ok-add-in-Expr-clause-last
returns-in_ok-add-in-Expr-clause-last c = rw c.in-Expr.is (puts_expression c.args.self.now (record { expressions = c.add.new.self; individuals = c.args.self.now.individuals }) c.in-Expr.e c.args.number c.in_ok-add-in-Expr.ensures.last refl)

pub returns-in_ok-add-in-Individual-clause-ok : goal.returns-in_ok-add-in-Individual-clause-ok
returns-in_ok-add-in-Individual-clause-ok c = rw c.in-Individual.is (adds_individual c.args.self.now (record { expressions = c.args.self.now.expressions; individuals = c.add-in-Individual.new.self }) c.in-Individual.a c.args.number c.in_ok-add-in-Individual.ensures.ok refl)

pub returns-in_ok-add-in-Individual-clause-last : goal.returns-in_ok-add-in-Individual-clause-last
returns-in_ok-add-in-Individual-clause-last c = rw c.in-Individual.is (puts_individual c.args.self.now (record { expressions = c.args.self.now.expressions; individuals = c.add-in-Individual.new.self }) c.in-Individual.a c.args.number c.in_ok-add-in-Individual.ensures.last refl)
