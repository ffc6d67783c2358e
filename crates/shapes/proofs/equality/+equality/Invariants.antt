use Rattle.std.proofs.Common.{◌≡◌, length}
use Rattle.fs_parser.specs.View.{trees_of}
use Rattle.shapes.specs.TreeEquality.{same_trees}
use Rattle.shapes.proofs.equality.+equality.Given as goal

abbrev pub invariant-same_trees-loop-one : goal.invariant-same_trees-loop-one
invariant-same_trees-loop-one l =
    (length l.one-iterator.a.rest.now ≡ length l.one-iterator.b.rest.now)
    × (same_trees (trees_of l.one-iterator.a.rest.now) (trees_of l.one-iterator.b.rest.now) ≡ same_trees (trees_of l.a) (trees_of l.b))
