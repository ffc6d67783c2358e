use Rattle.saturate.proofs.Summaries.{has_listed}
use Rattle.saturate.proofs.summary.has.Goals as goal

pub returns : goal.returns
returns c = has_listed c.args.closure.now c.args.property c.supers.result.now c.is_empty.result c.supers.ensures.exact c.is_empty.ensures
