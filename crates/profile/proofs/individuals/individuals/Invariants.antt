use Rattle.std.proofs.Common.{map, take}
use Rattle.axioms.specs.View.{ind_numbers}
use Rattle.profile.specs.Additions.{ReadsIndividuals}
use Rattle.profile.proofs.PropertyForms.{tree_name}
use Rattle.profile.proofs.individuals.individuals.Given as goal

abbrev pub invariant-loop-tree : goal.invariant-loop-tree
invariant-loop-tree l = ReadsIndividuals (map tree_name (take l.tree-index l.trees)) l.fn.builder l.builder (ind_numbers l.individuals.items)
