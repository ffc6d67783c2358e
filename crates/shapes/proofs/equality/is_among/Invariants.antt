use Rattle.std.proofs.Common.{◌≡◌, map, drop}
use Rattle.std.specs.List.{list_any}
use Rattle.fs_parser.specs.View.{tree_of}
use Rattle.shapes.specs.TreeEquality.{same_tree}
use Rattle.shapes.proofs.equality.is_among.Given as goal

abbrev pub invariant-loop-other : goal.invariant-loop-other
invariant-loop-other l = list_any (same_tree (tree_of l.tree)) (map tree_of (drop l.other-index l.trees)) ≡ list_any (same_tree (tree_of l.tree)) (map tree_of l.trees)
