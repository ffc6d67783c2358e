use Rattle.fs_parser.specs.Rest.{bytes_left}
use Rattle.statements_text.proofs.Taking.{IsTakenSoFar}
use Rattle.statements_text.proofs.restriction.take_all.Given as goal

abbrev pub invariant-loop-tree : goal.invariant-loop-tree
invariant-loop-tree l = IsTakenSoFar l.fn.restricting.version l.fn.trees l.trees l.restricting

abbrev pub decreases-loop-tree : goal.decreases-loop-tree
decreases-loop-tree l = bytes_left l.trees
