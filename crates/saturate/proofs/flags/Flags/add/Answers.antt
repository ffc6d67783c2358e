use Rattle.std.proofs.Common.{◌<◌, length}
use Rattle.saturate.proofs.Flagging.{those_and_one}
use Rattle.saturate.proofs.flags.Flags.add.Goals as goal

pub invariant_of-self-2 : goal.invariant_of-self-2
invariant_of-self-2 c =
    let low : c.args.number < length c.self.inside.row = rw (← c.self.view_is) at c.requires in
    rw (c.put.ensures.after, c.in_ok-push.ensures.items) (those_and_one c.self.inside.row c.self.inside.numbers.items c.args.number low c.self.invariant)
