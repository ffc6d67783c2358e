use Rattle.statements_text.proofs.Taking.{IsTakenTo}
use Rattle.statements_text.proofs.restriction.taken.Given as goal

abbrev pub invariant-loop-tree : goal.invariant-loop-tree
invariant-loop-tree l = IsTakenTo l.fn.version l.trees l.tree-index l.restricting
