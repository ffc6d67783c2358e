use Rattle.std.proofs.Common.{map, take}
use Rattle.axioms.specs.Fronts.{Extends}
use Rattle.fs_parser.specs.View.{tree_of}
use Rattle.profile.specs.Intake.{AreTakenBehind}
use Rattle.profile.proofs.acceptance.take_all.Given as goal

abbrev pub invariant-loop-tree : goal.invariant-loop-tree
invariant-loop-tree l = record {
  behind : AreTakenBehind (map tree_of (take l.tree-index l.trees)) l.fn.reader l.reader;
  kept : Extends l.fn.reader.ontology l.reader.ontology;
}
