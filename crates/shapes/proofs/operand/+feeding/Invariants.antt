use Rattle.std.proofs.Common.{◌≡◌, drop, fold}
use Rattle.fs_parser.specs.View.{trees_of}
use Rattle.shapes.specs.HashInput.{writes_of}
use Rattle.shapes.proofs.operand.+feeding.Given as goal

abbrev pub invariant-feed_each-loop-tree : goal.invariant-feed_each-loop-tree
invariant-feed_each-loop-tree g l = fold g.H.Hasher.write l.state (writes_of (trees_of (drop l.tree-index l.trees))) ≡ fold g.H.Hasher.write l.initial.state (writes_of (trees_of l.trees))
