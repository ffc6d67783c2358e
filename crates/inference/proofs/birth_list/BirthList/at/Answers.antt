use Rattle.std.proofs.Common.{arith}
use Rattle.inference.specs.BirthLists.{shared_births}
use Rattle.inference.proofs.BirthLists.{at_own, long}
use Rattle.inference.proofs.birth_list.BirthList.at.Goals as goal

pub returns-else-number-self : goal.returns-else-number-self
returns-else-number-self c =
    let shared = shared_births c.self.inside.shared in
    let many = c.self.inside.many in
    let own = c.self.inside.own.items in
    rw (← c.self.view_is) (at_own shared many own c.self.invariant c.args.number c.index.result.now (omega (arith, c.if-number-self.false)) (omega (arith, rw (← c.self.view_is) at c.requires, long shared many own c.self.invariant)) c.index.ensures)
