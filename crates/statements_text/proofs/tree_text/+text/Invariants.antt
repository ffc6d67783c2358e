use Rattle.std.proofs.Common.{◌≡◌, ◌++◌, [], drop}
use Rattle.statements_text.proofs.Writing.{text_left}
use Rattle.statements_text.proofs.tree_text.+text.Given as goal

abbrev pub invariant-write_form-loop-tree : goal.invariant-write_form-loop-tree
invariant-write_form-loop-tree l = l.out.items ++ text_left l.lead (drop l.tree-index l.trees) ≡ l.initial.out.items ++ text_left [] l.trees
