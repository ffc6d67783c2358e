use Rattle.std.proofs.Common.{refl}
use Rattle.indexes.proofs.Pairing.{placed}
use Rattle.indexes.proofs.disjoint.Disjointness.has.Goals as goal

pub returns-clause-yes : goal.returns-clause-yes
returns-clause-yes c = λ yes.
    let w = c.is_used.ensures.some yes in
    (w.0, (placed c.self.inside.places c.args.key c.of.result.now c.self.invariant c.self.view_is refl c.of.ensures).of w.0 w.1)

pub returns-clause-no : goal.returns-clause-no
returns-clause-no c = λ no p w. c.is_used.ensures.none no p ((placed c.self.inside.places c.args.key c.of.result.now c.self.invariant c.self.view_is refl c.of.ensures).all p w)
