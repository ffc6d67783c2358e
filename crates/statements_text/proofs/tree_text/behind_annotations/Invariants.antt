use Rattle.std.proofs.Common.{◌≡◌, drop}
use Rattle.fs_parser.specs.View.{trees_of}
use Rattle.shapes.specs.Faults.{behind_annotations}
use Rattle.statements_text.proofs.tree_text.behind_annotations.Given as goal

abbrev pub invariant-loop-index : goal.invariant-loop-index
invariant-loop-index l = behind_annotations (trees_of (drop l.index l.trees)) ≡ behind_annotations (trees_of l.trees)
