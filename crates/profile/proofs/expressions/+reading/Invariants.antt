use Rattle.std.proofs.Common.{map, take}
use Rattle.axioms.specs.View.{expr_numbers}
use Rattle.profile.specs.Additions.{ReadsClasses}
use Rattle.profile.proofs.Forms.{tree_class}
use Rattle.profile.proofs.expressions.+reading.Given as goal

abbrev pub invariant-class_expressions-loop-tree : goal.invariant-class_expressions-loop-tree
invariant-class_expressions-loop-tree l = ReadsClasses (map tree_class (take l.tree-index l.trees)) l.fn.builder l.builder (expr_numbers l.expressions.items)
