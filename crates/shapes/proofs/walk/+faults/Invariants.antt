use Rattle.std.proofs.Common.{◌≡◌, ◌++◌, ◌-◌, [], false, true, map, take, drop}
use Rattle.fs_parser.specs.View.{tree_of, trees_of}
use Rattle.shapes.proofs.Lists.{FindsAmong, earlier}
use Rattle.shapes.specs.Faults.{annotation_faults, faults_inside}
use Rattle.shapes.specs.Shapes.{Many}
use Rattle.shapes.specs.View.{faults_of, names_of, operand_trees, operands_view}
use Rattle.shapes.proofs.walk.+faults.Given as goal

abbrev pub invariant-annotation_faults-loop-tree : goal.invariant-annotation_faults-loop-tree
invariant-annotation_faults-loop-tree l =
    faults_of l.found.items ++ annotation_faults l.context.version (names_of l.context) (trees_of (drop l.tree-index l.trees)) ≡ faults_of l.initial.found.items ++ annotation_faults l.context.version (names_of l.context) (trees_of l.trees)

abbrev pub invariant-few_faults-loop-index : goal.invariant-few_faults-loop-index
invariant-few_faults-loop-index l =
    faults_of l.found.items ++ faults_inside l.context.version (names_of l.context) false (map tree_of (take (l.index - l.in_front) (drop l.in_front l.trees))) (operands_view l.left) (trees_of (drop l.index l.trees))
    ≡ faults_of l.initial.found.items ++ faults_inside l.context.version (names_of l.context) false [] (operands_view l.fn.operands) (trees_of (drop l.in_front l.trees))

abbrev pub invariant-distinct_faults-loop-index : goal.invariant-distinct_faults-loop-index
invariant-distinct_faults-loop-index l =
    (faults_of l.found.items ++ faults_inside l.context.version (names_of l.context) false (earlier l.trees l.in_front l.index) (Many true l.operand) (trees_of (drop l.index l.trees))
    ≡ faults_of l.initial.found.items ++ faults_inside l.context.version (names_of l.context) false [] (Many true l.operand) (trees_of (drop l.in_front l.trees)))
    × FindsAmong (operand_trees l.seen.keys) (earlier l.trees l.in_front l.index)
