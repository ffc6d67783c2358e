use Rattle.std.proofs.Common.{sym}
use Rattle.keyed_hash.proofs.Placed.{placed}
use Rattle.keyed_hash.proofs.set.NumberedSet.find.Goals as goal

pub returns-in-Some-clause-found : goal.returns-in-Some-clause-found
returns-in-Some-clause-found g c =
    rw (← c.self.view_is) (placed (g.K.Equivalent.equivalent c.args.key) c.self.inside.set.keys c.in-Some.place (sym c.in-Some.ensures.index))
