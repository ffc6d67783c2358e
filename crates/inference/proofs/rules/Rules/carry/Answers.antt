use Rattle.inference.proofs.Growth.{grows_same}
use Rattle.inference.proofs.Drawing.{draws}
use Rattle.inference.proofs.Giving.{not_carried}
use Rattle.inference.proofs.Meeting.{numbers_within, kind_of}
use Rattle.inference.specs.Visits.{IsEdge}
use Rattle.inference.proofs.rules.Rules.carry.Goals as goal

pub meet_behind-requires-clause-numbers : goal.meet_behind-requires-clause-numbers
meet_behind-requires-clause-numbers c = numbers_within IsEdge c.args.facts.now.facts c.args.numbers.now c.requires.numbers

pub meet_behind-requires-clause-filled : goal.meet_behind-requires-clause-filled
meet_behind-requires-clause-filled c = c.filled-filled.ensures c.args.self.now.problem.now.forms c.args.self.now.joined

pub returns-else-is_carried : goal.returns-else-is_carried
returns-else-is_carried c = draws (grows_same c.requires.derived) (λ n there g at.
    not_carried c.args.self.now.problem.now c.args.hand.class c.args.hand.context g c.args.facts.now (c.is_carried.ensures.nothing c.if-is_carried.false) (c.is_carried.ensures.filler c.if-is_carried.false)
    (kind_of IsEdge c.args.facts.now.facts c.args.numbers.now c.requires.numbers n there g at))
