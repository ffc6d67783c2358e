use Rattle.indexes.proofs.Pairing.{placed}
use Rattle.indexes.proofs.Sides.{all_by_key, one_place, only_by_key, place_there}
use Rattle.indexes.proofs.disjoint.Disjointness.beside.Goals as goal

pub both_sides-requires-clause-there : goal.both_sides-requires-clause-there
both_sides-requires-clause-there c =
    let list = c.of.result.now in
    place_there c.args.key list (placed c.self.inside.places c.args.key list c.self.invariant c.self.view_is c.deref.ensures.value c.of.ensures) _ (one_place list 0 c.in-len1.len_at_least c.in-len1.len_below)

pub returns-in-len1-clause-all : goal.returns-in-len1-clause-all
returns-in-len1-clause-all c =
    let list = c.of.result.now in
    all_by_key c.args.key list (placed c.self.inside.places c.args.key list c.self.invariant c.self.view_is c.deref.ensures.value c.of.ensures) _ (one_place list 0 c.in-len1.len_at_least c.in-len1.len_below)
    c.both_sides.result c.both_sides.ensures.all

pub returns-in-len1-clause-only : goal.returns-in-len1-clause-only
returns-in-len1-clause-only c =
    let list = c.of.result.now in
    only_by_key c.args.key list (placed c.self.inside.places c.args.key list c.self.invariant c.self.view_is c.deref.ensures.value c.of.ensures) _ (one_place list 0 c.in-len1.len_at_least c.in-len1.len_below)
    c.both_sides.result c.both_sides.ensures.only
