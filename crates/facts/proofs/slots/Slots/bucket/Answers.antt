use Rattle.std.proofs.Common.{sym}
use Rattle.facts.proofs.Placing.{one_bucket}
use Rattle.facts.proofs.slots.Slots.bucket.Goals as goal

pub returns-in-Few-clause-value : goal.returns-in-Few-clause-value
returns-in-Few-clause-value c = rw c.in-Few.is (sym (one_bucket c.args.seeds.now c.args.fact))
