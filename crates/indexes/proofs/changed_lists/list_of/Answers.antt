use Rattle.std.proofs.Common.{Some, ap, sym, ◌∙◌}
use Rattle.indexes.proofs.Changing.{stands}
use Rattle.indexes.proofs.changed_lists.list_of.Goals as goal

pub returns-clause-some : goal.returns-clause-some
returns-clause-some c = (stands c.args.changed.now c.args.key c.in_ok-place.place c.index-changed-place.result c.in_ok-place.ensures.some c.index-changed-place.is).1 ∙ ap Some (sym c.numbers.ensures)
