use Rattle.axioms.specs.View.{node_of}
use Rattle.profile.proofs.Extending.{expression_extends}
use Rattle.profile.proofs.name_builder.NameBuilder.add_expr.Goals as goal

pub returns-clause-kept : goal.returns-clause-kept
returns-clause-kept c = rw (← c.self.view_is) (expression_extends c.self.inside.builder c.add_expr.new.self (node_of c.args.expr) c.add_expr.result c.add_expr.ensures.ok c.add_expr.ensures.others c.add_expr.ensures.err)
