use Rattle.std.proofs.Common.{[], ◌++◌, subst, Option, option_map}
use Rattle.fs_parser.specs.Rest.{IsNext}
use Rattle.fs_parser.specs.Tree.{Empty}
use Rattle.fs_parser.specs.View.{tree_of, trees_from}
use Rattle.fs_parser.specs.declared.tree.Tree as code
use Rattle.statements_text.proofs.Taking.{all_so_far, few_kept, few_left_out, none_so_far, one_more_so_far}
use Rattle.statements_text.proofs.restriction.take_all.Goals as goal

pub loop-tree-init : goal.loop-tree-init
loop-tree-init c = none_so_far c.args.restricting.now.version c.args.trees.now c.args.restricting.now c.requires

pub loop-tree-preserved : goal.loop-tree-preserved
loop-tree-preserved c =
    let left = c.loop-tree.trees in
    let next = c.next.new.self in
    let first = subst (λ (o : Option code.Tree). IsNext left (option_map tree_of o) next) c.in-Ok-Some.field-0-is c.in-Ok-Some.ensures.next in
    one_more_so_far c.args.restricting.now.version c.args.trees.now left next (tree_of c.in-Ok-Some.tree) c.loop-tree.restricting c.take-taken.new.self c.loop-tree.invariant first c.in-Ok.ensures

pub take-taken-requires-clause-kept : goal.take-taken-requires-clause-kept
take-taken-requires-clause-kept c =
    let h = c.loop-tree.invariant in
    few_kept c.args.restricting.now.version (trees_from (h.trees ++ [])) Empty c.loop-tree.restricting (h.taken [])

pub take-taken-requires-clause-left_out : goal.take-taken-requires-clause-left_out
take-taken-requires-clause-left_out c =
    let h = c.loop-tree.invariant in
    few_left_out c.args.restricting.now.version (trees_from (h.trees ++ [])) Empty c.loop-tree.restricting (h.taken [])

pub returns-in-Ok-None : goal.returns-in-Ok-None
returns-in-Ok-None c =
    let left = c.loop-tree.trees in
    let none = subst (λ (o : Option code.Tree). IsNext left (option_map tree_of o) c.next.new.self) c.in-Ok-None.field-0-is c.in-Ok-None.ensures.next in
    all_so_far c.args.restricting.now.version c.args.trees.now left c.loop-tree.restricting c.loop-tree.invariant none.0
