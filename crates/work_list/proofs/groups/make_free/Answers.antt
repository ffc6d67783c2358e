use Rattle.std.proofs.Common.{◌+◌, refl, arith}
use Rattle.work_list.proofs.Chains.{freed}
use Rattle.work_list.proofs.groups.make_free.Goals as goal

pub returns-clause-chains : goal.returns-clause-chains
returns-clause-chains c =
    rw (c.push_reserved.ensures.items, c.make_room.ensures.items)
    (freed c.args.nodes.now.items (record { fact = 0; next = 0 }) c.args.free.now (c.len-count.result + 1) (omega (arith, c.if-free-gt0.false)) refl (omega (arith, c.len-count.ensures)))
