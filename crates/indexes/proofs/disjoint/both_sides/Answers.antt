use Rattle.std.proofs.lemmas.Option.{slice_get-get_or}
use Rattle.indexes.proofs.Sides.{all_beside, only_beside}
use Rattle.indexes.proofs.disjoint.both_sides.Goals as goal

pub returns-clause-all : goal.returns-clause-all
returns-clause-all c =
    let operands = c.args.operands.now in
    all_beside operands c.requires.lists c.args.place c.requires.there _ (slice_get-get_or operands c.args.place _ c.requires.there) c.in_ok-first.first c.in_ok-first.ensures

pub returns-clause-only : goal.returns-clause-only
returns-clause-only c =
    let operands = c.args.operands.now in
    only_beside operands c.requires.lists c.args.place c.requires.there _ (slice_get-get_or operands c.args.place _ c.requires.there) c.in_ok-first.first c.in_ok-first.ensures
