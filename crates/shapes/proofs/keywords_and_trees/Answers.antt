use Rattle.shapes.proofs.Apart.{apart, first_refuses, second_refuses}
use Rattle.shapes.specs.TreeLaws.{tree_itself}
use Rattle.shapes.proofs.keywords_and_trees.Goals as goal

pub returns : goal.returns
returns c = record { keywords = apart; first = first_refuses; second = second_refuses; trees = tree_itself }
