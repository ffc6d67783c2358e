use Rattle.std.proofs.Common.{arith}
use Rattle.work_list.proofs.Waiting.{popped}
use Rattle.work_list.proofs.groups.Groups.pop.Goals as goal

pub returns-clause-some : goal.returns-clause-some
returns-clause-some c =
    popped c.args.self.now c.take.new.self c.args.context c.in_ok-fact.fact (omega (arith, c.if-place-len.false, c.len.ensures)) c.in_ok-fact.ensures.same c.in_ok-fact.ensures.first
