use Rattle.std.proofs.Common.{◌++◌}
use Rattle.statements_text.proofs.Writing.{one_more}
use Rattle.statements_text.proofs.tree_text.+text.Goals as goal

pub write_form-loop-tree-preserved : goal.write_form-loop-tree-preserved
write_form-loop-tree-preserved t c =
    let loop = c.loop-tree in
    one_more (c.extend_from_slice-2.new.self.items ++ _) loop.out.items c.extend_from_slice-in-loop-tree.new.self.items c.write_tree.new.out.items loop.lead.now c.args.trees.now loop.tree-index
    c.tree-item.result c.loop-tree-test.true c.tree-item.is c.in_ok-extend_from_slice-3.ensures.items c.in_ok-write_tree.ensures loop.invariant
