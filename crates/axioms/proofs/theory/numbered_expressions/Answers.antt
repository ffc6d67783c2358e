use Rattle.axioms.proofs.OwnClasses.{examples_are_ontologies}
use Rattle.axioms.proofs.Trees.{node_tree, part_before}
use Rattle.axioms.proofs.theory.numbered_expressions.Goals as goal

pub returns : goal.returns
returns c = record { nodes = node_tree; parts = part_before; examples = examples_are_ontologies }
