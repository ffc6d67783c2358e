use Rattle.std.proofs.Common.{map, take}
use Rattle.axioms.specs.View.{prop_numbers}
use Rattle.profile.specs.Additions.{ReadsProperties}
use Rattle.profile.proofs.PropertyForms.{tree_name}
use Rattle.profile.proofs.properties.properties.Given as goal

abbrev pub invariant-loop-tree : goal.invariant-loop-tree
invariant-loop-tree l = ReadsProperties (map tree_name (take l.tree-index l.trees)) l.fn.builder l.builder (prop_numbers l.properties.items)
