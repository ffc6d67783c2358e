use Rattle.std.proofs.Common.{◌-◌, get_or, arith}
use Rattle.indexes.proofs.Tables.{removes_among, removes_first}
use Rattle.indexes.proofs.table.take_out.Goals as goal

pub returns-then-place-first-clause-removes : goal.returns-then-place-first-clause-removes
returns-then-place-first-clause-removes c =
    let keys = c.args.keys.now in
    rw c.remove.ensures (removes_first keys c.args.packed.now c.args.lists.now.items c.args.key (get_or keys c.args.key 0 - 1) c.args.number c.requires.table
    (omega (arith, c.if-place-first.true, c.len-first.ensures)) (omega (arith, c.if-keys-key-eq0.false)))

pub returns-clause-removes : goal.returns-clause-removes
returns-clause-removes c =
    let keys = c.args.keys.now in
    let first = c.len-first.result in
    rw c.remove_at.ensures (removes_among keys c.args.packed.now c.args.lists.now.items c.args.key first (get_or keys c.args.key 0 - 1 - first) c.args.number c.requires.table
    c.len-first.ensures (omega (arith, c.if-place-first.false, c.if-keys-key-eq0.false)))
