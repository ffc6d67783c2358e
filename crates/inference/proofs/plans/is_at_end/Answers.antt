use Rattle.inference.proofs.Planning.{not_above}
use Rattle.inference.proofs.plans.is_at_end.Goals as goal

pub returns-then-above-bit-eq0 : goal.returns-then-above-bit-eq0
returns-then-above-bit-eq0 c = λ forms same above. not_above forms c.args.above c.bit.result c.args.property c.args.end c.if-above-bit-eq0.true above c.bit.ensures
