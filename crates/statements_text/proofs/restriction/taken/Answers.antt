use Rattle.std.proofs.Common.{arith}
use Rattle.statements_text.proofs.Taking.{list_taken, next_taken}
use Rattle.statements_text.proofs.restriction.taken.Goals as goal

pub loop-tree-preserved : goal.loop-tree-preserved
loop-tree-preserved c =
    next_taken c.args.version c.args.trees.now c.loop-tree.tree-index c.tree-item.result c.loop-tree.restricting c.take.new.self c.loop-tree-test.true c.tree-item.is c.loop-tree.invariant c.in_ok-take.ensures

pub returns : goal.returns
returns c = list_taken c.args.version c.args.trees.now c.loop-tree.tree-index c.loop-tree.restricting (omega (arith, c.loop-tree-test.false)) c.loop-tree.invariant
