use Rattle.inference.proofs.Below.{at_once, if_listed}
use Rattle.inference.proofs.properties.is_below.Goals as goal

pub returns-then-is_same : goal.returns-then-is_same
returns-then-is_same c = λ forms h. at_once forms c.args.p c.args.q c.is_same.result c.if-is_same.true (c.is_same.ensures.0 c.if-is_same.true)

pub returns-else-is_same : goal.returns-else-is_same
returns-else-is_same c = λ forms h.
    if_listed c.args.closure.now forms h c.args.p c.args.q c.supers.result.now c.is_listed.result c.well_formed-2.ensures c.supers.ensures.exact c.is_listed.ensures (λ e. cc (c.if-is_same.false, c.is_same.ensures.1 e))
