use Rattle.work_list.proofs.Waiting.{next_taken}
use Rattle.work_list.proofs.by_context.pop.Goals as goal

pub returns-clause-together : goal.returns-clause-together
returns-clause-together c =
    next_taken c.take-2.result c.args.groups.now c.take.new.groups c.take-2.new.groups c.args.last.now c.in_ok-context.context c.args.begun.now.contexts.items c.add.new.self.contexts.items c.in_default.ensures.same c.take-2.ensures.some c.take-2.ensures.context c.take-2.ensures.none
    c.in_default.ensures.none c.in_ok-context.ensures.waits c.add.ensures.begins
