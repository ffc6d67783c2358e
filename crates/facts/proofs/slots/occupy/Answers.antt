use Rattle.std.proofs.Common.{arith}
use Rattle.facts.proofs.Filling.{put_set, put_push, stands_put, stands_still}
use Rattle.facts.proofs.slots.occupy.Goals as goal

pub returns-then-slot-len-clause-stands : goal.returns-then-slot-len-clause-stands
returns-then-slot-len-clause-stands c b first =
    stands_put c.args.numbers.now.items _ c.args.slot c.args.number b (put_set c.args.numbers.now.items c.args.slot c.args.number (omega (arith, c.if-slot-len.true, c.len.ensures))) first

pub returns-then-slot-len-clause-others : goal.returns-then-slot-len-clause-others
returns-then-slot-len-clause-others c =
    stands_still c.args.numbers.now.items _ c.args.slot c.args.number (put_set c.args.numbers.now.items c.args.slot c.args.number (omega (arith, c.if-slot-len.true, c.len.ensures))) c.requires.free c.requires.number

pub returns-clause-stands : goal.returns-clause-stands
returns-clause-stands c b first =
    rw c.in_ok-push.ensures.items
    (stands_put c.args.numbers.now.items _ c.args.slot c.args.number b (put_push c.args.numbers.now.items c.args.slot c.args.number (omega (arith, c.if-slot-len.false, c.len.ensures, c.requires.within))) first)
