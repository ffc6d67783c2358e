use Rattle.std.proofs.Common.{rules}
use Rattle.saturate.proofs.Flagging.{none_flagged}
use Rattle.saturate.proofs.flags.Flags.new.Goals as goal

pub invariant_of-result : goal.invariant_of-result
invariant_of-result c = rw c.in_ok-row.ensures (none_flagged c.args.bound c.new-2.result.items (search rules))
