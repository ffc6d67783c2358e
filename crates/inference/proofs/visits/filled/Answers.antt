use Rattle.std.proofs.Common.{ap, ◌∙◌}
use Rattle.inference.specs.Visits.{filled_property}
use Rattle.inference.proofs.Lists.{two_elements}
use Rattle.inference.proofs.visits.filled.Goals as goal

pub returns-in-len2 : goal.returns-in-len2
returns-in-len2 c = c.filled_by.ensures ∙ ap filled_property (two_elements c.args.older.now _ _ c.in-len2.len_at_least c.in-len2.len_below)
