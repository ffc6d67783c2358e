use Rattle.fs_parser.specs.Rest.{bytes_left}
use Rattle.profile.proofs.OneByOne.{AreTakenSoFar}
use Rattle.profile.proofs.streamed.take_all.Given as goal

abbrev pub invariant-loop-tree : goal.invariant-loop-tree
invariant-loop-tree l = AreTakenSoFar l.fn.trees l.trees l.fn.reader l.reader

abbrev pub decreases-loop-tree : goal.decreases-loop-tree
decreases-loop-tree l = bytes_left l.trees
