use Rattle.axioms.proofs.Trees.{class_tree}
use Rattle.inferred_text.proofs.lines.expression_of.Goals as goal

pub returns-clause-meant : goal.returns-clause-meant
returns-clause-meant c = class_tree c.args.ontology.now c.args.class c.in-Some.expression.0 c.in-Some.ensures.found
