use Rattle.inference.proofs.Marking.{cannot_carry}
use Rattle.inference.proofs.rules.Rules.may_fill.Goals as goal

pub returns-in-In : goal.returns-in-In
returns-in-In c = λ no f has.
    let k = c.args.self.now.problem.now in
    rw c.in-In.is (cannot_carry k c.args.above c.filled.result f _ no has (c.filled.ensures k.forms c.args.self.now.joined))
