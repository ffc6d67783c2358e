use Rattle.std.proofs.Common.{arith}
use Rattle.profile.proofs.PropertyForms.{all_properties, no_property, property_pushed, property_refused}
use Rattle.axioms.proofs.Fronts.{extends_both}
use Rattle.profile.proofs.Extending.{extends_of}
use Rattle.profile.proofs.properties.properties.Goals as goal

pub loop-tree-init : goal.loop-tree-init
loop-tree-init c = no_property c.args.builder.now c.well_formed-2.ensures _ c.new-properties.ensures.items

pub returns-in-Err-clause-read : goal.returns-in-Err-clause-read
returns-in-Err-clause-read c =
    property_refused c.args.trees.now c.loop-tree.tree-index c.tree-item.result c.args.builder.now c.loop-tree.builder c.property.new.builder _ c.loop-tree.invariant c.loop-tree-test.true c.tree-item.is c.in-Err.fault c.in-Err.ensures.read

pub loop-tree-preserved : goal.loop-tree-preserved
loop-tree-preserved c =
    property_pushed c.args.trees.now c.loop-tree.tree-index c.tree-item.result c.args.builder.now c.loop-tree.builder c.property.new.builder c.loop-tree.properties.items c.in-Ok.property _ c.in-Ok-push.ensures.items c.loop-tree.invariant c.loop-tree-test.true c.tree-item.is c.in-Ok.ensures.read

pub returns-clause-read : goal.returns-clause-read
returns-clause-read c = all_properties c.args.trees.now c.loop-tree.tree-index c.args.builder.now c.loop-tree.builder _ c.loop-tree.invariant (omega (arith, c.loop-tree-test.false))

pub returns-in-Err-clause-kept : goal.returns-in-Err-clause-kept
returns-in-Err-clause-kept c = extends_both c.args.builder.now c.loop-tree.builder c.property.new.builder (extends_of _ _ _ _ c.args.builder.now c.loop-tree.builder c.loop-tree.invariant.adds) c.in-Err.ensures.kept

pub returns-in-Err-push-clause-kept : goal.returns-in-Err-push-clause-kept
returns-in-Err-push-clause-kept c = extends_both c.args.builder.now c.loop-tree.builder c.property.new.builder (extends_of _ _ _ _ c.args.builder.now c.loop-tree.builder c.loop-tree.invariant.adds) c.in-Ok.ensures.kept

pub returns-clause-kept : goal.returns-clause-kept
returns-clause-kept c = extends_of _ _ _ _ c.args.builder.now c.loop-tree.builder c.loop-tree.invariant.adds
