use Rattle.std.proofs.Common.{◌≡◌, [], rules}
use Rattle.work_list.proofs.Waiting.{no_items, nobody}
use Rattle.work_list.proofs.by_context.next.Goals as goal

pub returns-clause-none : goal.returns-clause-none
returns-clause-none c =
    let none : c.loop-context.stack.items ≡ [] = search rules in
    no_items c.args.groups.now (nobody c.args.groups.now c.loop-context.stack.items c.loop-context.invariant none)
