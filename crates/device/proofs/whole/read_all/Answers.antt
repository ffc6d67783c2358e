use Rattle.device.proofs.Pieces.{read_more}
use Rattle.device.proofs.whole.read_all.Goals as goal

pub returns-then-n-limit-clause-lost : goal.returns-then-n-limit-clause-lost
returns-then-n-limit-clause-lost g c =
    read_more _ _ _ _ _ _ c.loop-n.bytes.items _ _ c.loop-n.invariant.whole c.loop-n.invariant.fell c.in-Ok.ensures.ok

pub returns-then-is_err-clause-lost : goal.returns-then-is_err-clause-lost
returns-then-is_err-clause-lost g c =
    read_more _ _ _ _ _ _ c.loop-n.bytes.items _ _ c.loop-n.invariant.whole c.loop-n.invariant.fell c.in-Ok.ensures.ok
