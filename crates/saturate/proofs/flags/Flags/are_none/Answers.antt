use Rattle.saturate.proofs.Flagging.{no_flag}
use Rattle.saturate.proofs.flags.Flags.are_none.Goals as goal

pub returns : goal.returns
returns c = no_flag c.args.self.now c.numbers.result.now c.is_empty.result c.numbers.ensures c.is_empty.ensures
