use Rattle.std.proofs.Common.{[], ◌≡◌, ◌++◌, ◌∷◌, Some, map, ap, ◌∙◌, arith}
use Rattle.std.proofs.lemmas.List.{map_push, length-map}
use Rattle.fs_parser.specs.Machine.{only_one}
use Rattle.fs_parser.specs.View.{tree_of}
use Rattle.fs_parser.proofs.Steps.{not_only, no_items}
use Rattle.fs_parser.proofs.trees.end_of_tree.Goals.{in_default-via-in-Some+else-is_empty, in_default-via-in_default}
use Rattle.fs_parser.proofs.trees.end_of_tree.Goals as goal

pub returns-clause-given : goal.returns-clause-given
returns-clause-given c = elim c.in_default.branch [
  | in_default-via-in-Some+else-is_empty w ↦
      let left = c.pop.new.self.items in
      let tree = w.in-Some.tree in
      let all : map tree_of c.in_ok-trees.trees.items ≡ map tree_of left ++ tree_of tree ∷ [] = ap (map tree_of) w.in-Some.ensures.items ∙ map_push tree_of left tree in
      ap only_one (c.in_ok-trees.ensures.given ∙ ap Some all) ∙ not_only (map tree_of left) (tree_of tree) (grind (arith, length-map))
  | in_default-via-in_default w ↦
      let none : c.in_ok-trees.trees.items ≡ [] = no_items c.in_ok-trees.trees.items (grind arith) in
      ap only_one (c.in_ok-trees.ensures.given ∙ ap (λ ts. Some (map tree_of ts)) none)
]
