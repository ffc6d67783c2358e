use Rattle.std.proofs.Common.{ap, ◌∙◌}
use Rattle.inference.specs.Visits.{chained_properties}
use Rattle.inference.proofs.Lists.{two_elements}
use Rattle.inference.proofs.visits.chained.Goals as goal

pub returns-in-len2 : goal.returns-in-len2
returns-in-len2 c = c.chained_by.ensures ∙ ap chained_properties (two_elements c.args.older.now _ _ c.in-len2.len_at_least c.in-len2.len_below)
