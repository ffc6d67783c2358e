use Rattle.std.proofs.Common.{subst, Option, option_map}
use Rattle.fs_parser.specs.Rest.{IsNext}
use Rattle.fs_parser.specs.View.{tree_of}
use Rattle.fs_parser.specs.declared.tree.Tree as code
use Rattle.profile.proofs.OneByOne.{all_so_far, one_more_taken}
use Rattle.profile.proofs.streamed.take_all.Goals as goal

pub loop-tree-preserved : goal.loop-tree-preserved
loop-tree-preserved c =
    let left = c.loop-tree.trees in
    let next = c.next.new.self in
    let first = subst (λ (o : Option code.Tree). IsNext left (option_map tree_of o) next) c.in-Ok-Some.field-0-is c.in-Ok-Some.ensures.next in
    one_more_taken c.args.trees.now left next c.args.reader.now c.loop-tree.reader c.take-taken.new.self (tree_of c.in-Ok-Some.tree) c.loop-tree.invariant first c.in-Ok.ensures.taken

pub returns-in-Ok-None : goal.returns-in-Ok-None
returns-in-Ok-None c =
    let left = c.loop-tree.trees in
    let none = subst (λ (o : Option code.Tree). IsNext left (option_map tree_of o) c.next.new.self) c.in-Ok-None.field-0-is c.in-Ok-None.ensures.next in
    all_so_far c.args.trees.now left c.args.reader.now c.loop-tree.reader c.loop-tree.invariant none.0
