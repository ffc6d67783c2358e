use Rattle.std.proofs.Common.{arith}
use Rattle.facts.proofs.Filling.{put_set, stands_put, stands_still}
use Rattle.facts.proofs.slots.fill.Goals as goal

pub returns-clause-stands : goal.returns-clause-stands
returns-clause-stands c b first =
    stands_put c.args.numbers.now _ c.args.slot c.args.number b (put_set c.args.numbers.now c.args.slot c.args.number (omega arith)) first

pub returns-clause-others : goal.returns-clause-others
returns-clause-others c =
    stands_still c.args.numbers.now _ c.args.slot c.args.number (put_set c.args.numbers.now c.args.slot c.args.number (omega arith)) c.requires.free c.requires.number
