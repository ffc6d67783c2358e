use Rattle.std.proofs.Common.{rules}
use Rattle.facts.specs.Slots.{HasRoom}
use Rattle.facts.proofs.Placing.{first_holds}
use Rattle.facts.proofs.slots.Slots.make_room.Goals as goal

pub returns-then-not-is_full-clause-room : goal.returns-then-not-is_full-clause-room
returns-then-not-is_full-clause-room c =
    let room : HasRoom c.args.self.now = search rules in
    first_holds c.args.seeds.now c.args.self.now c.args.fact c.args.slot room c.requires.free

pub returns-clause-room : goal.returns-clause-room
returns-clause-room c =
    first_holds c.args.seeds.now c.grow.new.self c.args.fact c.first_free.result c.in_ok-grow.ensures.room
    (rw (← c.numbers.ensures, ← c.bucket.ensures.value) c.first_free.ensures)
