use Rattle.std.proofs.Common.{arith}
use Rattle.axioms.proofs.Fronts.{extends_both, extends_self}
use Rattle.profile.proofs.Takings.{all_behind, none_behind, one_behind}
use Rattle.profile.proofs.acceptance.take_all.Goals as goal

pub loop-tree-init : goal.loop-tree-init
loop-tree-init c = record { behind = none_behind c.args.reader.now; kept = extends_self c.args.reader.now.ontology }

pub loop-tree-preserved : goal.loop-tree-preserved
loop-tree-preserved c = record {
  behind = one_behind c.args.trees.now c.loop-tree.tree-index c.tree-item.result c.args.reader.now c.loop-tree.reader c.take.new.self c.loop-tree-test.true c.tree-item.is c.loop-tree.invariant.behind c.in_ok-take.ensures.taken;
  kept = extends_both c.args.reader.now.ontology c.loop-tree.reader.ontology c.take.new.self.ontology c.loop-tree.invariant.kept c.in_ok-take.ensures.kept;
}

pub returns-clause-taken : goal.returns-clause-taken
returns-clause-taken c = all_behind c.args.trees.now c.loop-tree.tree-index c.args.reader.now c.loop-tree.reader (omega (arith, c.loop-tree-test.false)) c.loop-tree.invariant.behind
