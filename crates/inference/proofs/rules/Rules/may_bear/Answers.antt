use Rattle.inference.proofs.Marking.{cannot_carry}
use Rattle.inference.proofs.rules.Rules.may_bear.Goals as goal

pub returns-in-Edge : goal.returns-in-Edge
returns-in-Edge c = λ no g has.
    let k = c.args.self.now.problem.now in
    rw c.in-Edge.is (cannot_carry k c.above.result c.args.filled _ g no (c.above.ensures k.forms c.args.self.now.joined) has)
